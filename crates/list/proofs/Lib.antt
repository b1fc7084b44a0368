mod Decimals
mod Example
mod Inputs
mod Powers

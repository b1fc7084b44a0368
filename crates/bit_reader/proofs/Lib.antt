mod Ways
mod Laws

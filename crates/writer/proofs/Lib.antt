mod Answers
mod EntryWays
mod FrontLaws
mod InkLaws
mod CycleWays
mod GroupWays

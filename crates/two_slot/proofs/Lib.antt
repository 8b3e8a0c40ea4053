mod Appending
mod Closed
mod Opening
mod Replacing

mod Adding
mod Checking
mod Closing
mod Copying
mod Opening
mod Taking

mod Serves
mod Turns

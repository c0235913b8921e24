mod Pointers
mod Parts

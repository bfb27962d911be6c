mod Begun
mod Changing
mod NextLines
mod Parts
mod Programs
mod Tops

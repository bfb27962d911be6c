mod Pages
mod Fronts
mod Bytes

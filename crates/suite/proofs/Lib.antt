mod Bytes
mod Pads
mod Undoing

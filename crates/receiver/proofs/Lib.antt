mod Reading
mod Serving

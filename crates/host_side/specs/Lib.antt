pub mod BadLines

pub mod PutByte

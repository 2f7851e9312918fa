pub mod PushedBytes

pub mod SomeStarts

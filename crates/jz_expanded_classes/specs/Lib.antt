pub mod ClassedLaws

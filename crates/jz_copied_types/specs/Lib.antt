pub mod CopiedLaws

pub mod JudgedSources

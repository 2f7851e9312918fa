mod LoopLemmas
mod FunctionLemmas

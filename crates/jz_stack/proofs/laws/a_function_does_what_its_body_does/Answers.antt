use Rattle.jz_stack.proofs.FrameLaw.{function_does}
use Rattle.jz_stack.proofs.laws.a_function_does_what_its_body_does.Goals as goal

pub returns : goal.returns
returns c = λ f body base rsp0 target s is ok short fits room. function_does f.size f.at f.saved is body ok base rsp0 target short fits s room

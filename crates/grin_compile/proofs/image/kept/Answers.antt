use Rattle.grin_compile.proofs.CompiledProgram.{built_of}
use Rattle.grin_compile.proofs.image.kept.Goals as goal

pub returns : goal.returns
returns c p cells stack h = built_of p cells stack c.args.compiled h

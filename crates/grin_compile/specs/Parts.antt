-- What the functions of the crate have made of a program.
use Rattle.std.specs.Prelude.{◌≡◌, ◌≤◌, ◌<◌, ◌%◌, ℕ, List, ◌∷◌, length, map}
use Rattle.arity_check.specs.Program as core
use Rattle.elf32.specs.File.{file_of, program}
use Rattle.elf32.specs.Rules.{Loads}
use Rattle.grin_syntax.specs.Tree as grin
use Rattle.grin_syntax.specs.Tree.{program_of}
use Rattle.grin_syntax.specs.Formed.{AllOf, Formed}
use Rattle.grin_syntax.specs.SameOutside.{names_of}
use Rattle.flow_system.specs.Solution.{Solution}
use Rattle.inline_theory.specs.Applications.{inlined, inlined_size}
use Rattle.grin_translate.specs.Translation.{tr}
use Rattle.stage_names.specs.declared.PassName.TheVariants.{Translate, Eval}
use Rattle.grin_stages.specs.Stage.{IsLeastOfTranslation, IsStage}
use Rattle.low_code.specs.Tree as low
use Rattle.low_code.specs.Formed as low_formed
use Rattle.rv32_items.specs.declared.Item.{Item}
use Rattle.rv32_items.specs.Laws.{addresses_of}
use Rattle.rv32_layout.specs.Places.{AllDecode}
use Rattle.register_alloc.specs.Fits.{UsesRegisters}
use Rattle.grin_compile.specs.declared.stages.Stages.{Stages}
use Rattle.grin_compile.specs.declared.layers.Layers.{Layers}
use Rattle.grin_compile.specs.declared.layers.Lowered.{Lowered}
use Rattle.grin_compile.specs.Layers.{AreLayers}
use Rattle.grin_compile.specs.Limits.{SizesAreInRange, heap_bytes}
use Rattle.grin_compile.specs.Lowerable.{IsLowerable}
use Rattle.grin_compile.specs.Passed.{later_stage}
use Rattle.grin_compile.specs.Stages.{passes, AreStages, IsLastSlim}
use Rattle.limits.specs.Limits.{largest_program, most_code}

-- the program of which code is made
abbrev pub lowered_stage : Stages → grin.Program
lowered_stage s = later_stage s s.last

-- the programs of all stages, in their order
abbrev pub all_programs : Stages → List grin.Program
all_programs s =
    program_of s.translated ∷ program_of s.evaluated ∷ program_of s.applied
    ∷ map program_of s.later.items

-- the stages after a, which is a program as it is inlined and is not too large, and the last slim
-- one of them, which can be lowered
pub record HasLast (p : core.Program) (a : grin.Program) (hs : List grin.Program)
    (g : grin.Program) : Type 0 where
  pub solution : Solution
  pub least : IsLeastOfTranslation p solution
  pub applied : a ≡ inlined solution (tr p)
  pub fits : inlined_size solution (tr p) ≤ largest_program
  pub stages : AreStages p passes (inlined solution (tr p)) hs
  pub last : IsLastSlim p solution hs g
  pub lowerable : IsLowerable g

-- the stages of a program, and the one that is lowered
pub record HasStages (p : core.Program) (s : Stages) : Type 0 where
  pub translated : IsStage p Translate (program_of s.translated)
  pub evaluated : IsStage p Eval (program_of s.evaluated)
  pub later : HasLast p (program_of s.applied) (map program_of s.later.items) (lowered_stage s)
  pub formed : AllOf Formed (all_programs s)

-- the cells and the bytes of stack, in whole words
pub record AreSizes (cells stack : ℕ) : Type 0 where
  pub range : SizesAreInRange cells stack
  pub words : stack % 4 ≡ 0

-- the layers below a program of GRIN, with as much code as can be placed; where the labels of its
-- procedures stand, their names, and the words of their frames
pub record HasLayers (g : grin.Program) (cells stack : ℕ) (m : Layers) : Type 0 where
  pub formed : low_formed.Formed (low.program_of m.low)
  pub items : List Item
  pub made : AreLayers g (low.program_of m.low) m.places cells stack items m.code.items
  pub some_words : 0 < length m.code.items
  pub few_words : length m.code.items ≤ most_code
  pub decode : AllDecode m.code.items
  pub uses : UsesRegisters (low.program_of m.low) m.places
  pub starts : m.starts.items ≡ addresses_of made.placed.lay items made.selects.begins
  pub names : m.names.items ≡ names_of g.procs
  pub frames : m.frames.items ≡ m.places.frames

-- the layers below a program of GRIN, and the file of the image of their words
pub record HasImage (g : grin.Program) (cells stack : ℕ) (m : Lowered) : Type 0 where
  pub layers : HasLayers g cells stack m.layers
  pub is_file : m.image.items ≡ file_of m.layers.code.items (heap_bytes g cells) stack
  pub loads : Loads m.image.items (program m.layers.code.items (heap_bytes g cells) stack)

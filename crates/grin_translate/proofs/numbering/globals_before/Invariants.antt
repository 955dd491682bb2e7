use Rattle.std.proofs.Common.{◌≡◌, ◌++◌, map, drop}
use Rattle.grin_translate.specs.Numbered.{globals_before, global_count}
use Rattle.grin_translate.proofs.numbering.globals_before.Given as goal

abbrev pub invariant-loop-f : goal.invariant-loop-f
invariant-loop-f l = record {
  globals : l.globals.items ++ globals_before l.count
      (map (λ f. f.params) (drop l.f-index l.functions)) ≡ globals_before 0
      (map (λ f. f.params) l.functions);
  count : global_count l.count (map (λ f. f.params) (drop l.f-index l.functions)) ≡ global_count 0
      (map (λ f. f.params) l.functions);
}

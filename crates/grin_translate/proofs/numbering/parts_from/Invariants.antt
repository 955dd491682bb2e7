use Rattle.std.proofs.Common.{◌≡◌, ◌++◌, map, drop}
use Rattle.grin_translate.specs.Numbered.{prefix_sums, after}
use Rattle.grin_translate.proofs.numbering.parts_from.Given as goal

abbrev pub invariant-loop-f : goal.invariant-loop-f
invariant-loop-f l = record {
  parts : l.parts.items ++ prefix_sums l.next (map (λ f. f.params) (drop l.f-index l.functions)) ≡
      prefix_sums l.first (map (λ f. f.params) l.functions);
  next : after l.next (map (λ f. f.params) (drop l.f-index l.functions)) ≡ after l.first
      (map (λ f. f.params) l.functions);
}

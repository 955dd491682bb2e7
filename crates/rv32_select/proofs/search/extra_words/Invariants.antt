use Rattle.rv32_select.proofs.search.extra_words.Given as goal

abbrev pub invariant-loop-arm : goal.invariant-loop-arm
invariant-loop-arm l = Unit {0}

use Rattle.std.proofs.Common.{◌≡◌, ◌++◌, ◌-◌, suc, nat_lt, cond, [], refl, sym, ap, ◌∙◌, arith}
use Rattle.std.specs.List.{flat_map}
use Rattle.flow_system.specs.declared.fact.Part.TheVariants.{Field as field}
use Rattle.points_to.specs.Bits.{block_words}
use Rattle.points_to.specs.Held.{in_part, shifted_word}
use Rattle.points_to.proofs.Done.{appends_none}
use Rattle.points_to.proofs.OnePart.{words_gone, words_moved}
use Rattle.points_to.proofs.Sets.{on_ok}
use Rattle.points_to.proofs.nodes.field_of_words.Goals as goal

pub returns-then-j-eq0 : goal.returns-then-j-eq0
returns-then-j-eq0 c =
    let ws = block_words c.args.block in
    appends_none c.args.out.now (flat_map (shifted_word c.args.t c.args.m c.args.j) ws)
    (ap (λ j. flat_map (shifted_word c.args.t c.args.m j) ws) c.if-j-eq0.true ∙ words_gone
    c.args.t c.args.m ws)

pub returns : goal.returns
returns c =
    let ws = block_words c.args.block in
    let t = c.args.t in
    let m = c.args.m in
    let j = c.args.j in
    let next : j ≡ suc (j - 1) = omega (arith, c.if-j-eq0.false) in
    on_ok c.push_if.result
    (c.push_if.new.out ≡ c.args.out.now ++ cond (nat_lt (j - 1) m)
    (in_part (field t (j - 1)) ws) [])
    (c.push_if.new.out ≡ c.args.out.now ++ flat_map (shifted_word t m j) ws)
    (λ e. e ∙ ap (λ l. c.args.out.now ++ l)
    (sym (ap (λ j. flat_map (shifted_word t m j) ws) next ∙ words_moved t m (j - 1)
    (nat_lt (j - 1) m) refl ws))) c.push_if.ensures

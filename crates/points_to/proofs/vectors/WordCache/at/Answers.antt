use Rattle.std.proofs.Common.{◌≡◌, ◌<◌, vec_len, length, sym, subst, arith}
use Rattle.points_to.specs.Held.{In}
use Rattle.points_to.specs.Rows.{numbers_in}
use Rattle.points_to.proofs.Blocks.{in_place}
use Rattle.points_to.proofs.VectorLoops.{words_at}
use Rattle.points_to.proofs.vectors.WordCache.at.Goals as goal

pub returns-then-is_of : goal.returns-then-is_of
returns-then-is_of c = λ p cs H exact.
    let m = c.args.self.now in
    let items = m.entries.items in
    let entry = c.index-entry.result.now in
    let test : c.chain.place < c.len.result = c.chain-test.true in
    let len : c.len.result ≡ vec_len m.entries = c.len.ensures in
    let within : c.chain.place < length items = omega (arith, test, len, m.entries.ok.0) in
    words_at p cs H m entry c.args.i (numbers_in c.args.numbers.now)
    (subst (λ e. In e items) (sym c.index-entry.ensures)
    (in_place items c.chain.place entry within))
    (c.is_of.ensures.index c.if-is_of.true) (c.is_of.ensures.numbers c.if-is_of.true) exact

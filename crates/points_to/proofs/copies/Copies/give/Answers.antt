use Rattle.std.proofs.Common.{rules, ◌≡◌, Some, List, sym}
use Rattle.std.specs.List.{flat_map}
use Rattle.flow_system.specs.Inclusions.{Inclusion}
use Rattle.flow_system.specs.Shown.{tables_of, inclusions_of}
use Rattle.flow_system.specs.Tables.{Tables}
use Rattle.points_to.specs.declared.copies.Fetch.{Fetch}
use Rattle.points_to.specs.Bits.{block_words}
use Rattle.points_to.specs.Copies.{fetch_at, AreFetched, IsCopied}
use Rattle.points_to.specs.Kept.{IsSound}
use Rattle.points_to.specs.Known.{held}
use Rattle.points_to.specs.Stored.{values_in, value_at}
use Rattle.points_to.specs.ValueWords.{stored_words}
use Rattle.points_to.proofs.Sets.{on_ok}
use Rattle.points_to.proofs.CopiesSound.{given_fetched}
use Rattle.points_to.proofs.copies.Copies.give.Goals as goal

pub returns-in_ok-stored_word-in-Some : goal.returns-in_ok-stored_word-in-Some
returns-in_ok-stored_word-in-Some c =
    let p = tables_of c.args.system.now in
    let cs = inclusions_of c.args.system.now in
    let k = c.args.kept.now in
    let before = c.args.self.now in
    let after = c.put.new.self in
    let g = c.args.g in
    let f = c.in-Some.fetch in
    let us = flat_map block_words c.blocks-in-Some.result.now in
    let words : us ≡ stored_words p (held k.facts) f.word (value_at (values_in cs) c.args.n)
    = search rules in
    on_ok c.put.result
    ((p : Tables) (cs : List Inclusion) →
    ((f : Fetch) → fetch_at before g ≡ Some f → AreFetched p cs f us) → IsCopied p cs before
    → IsCopied p cs after)
    (IsSound p cs k → IsCopied p cs before → IsCopied p cs after)
    (λ more sound x. more p cs
    (λ f' at'. given_fetched p cs k before g c.args.n f f' us (sym c.in-Some.ensures) at'
    (c.reaches.ensures c.if-not-reaches.false) words sound) x)
    c.put.ensures

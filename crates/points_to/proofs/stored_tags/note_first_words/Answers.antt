use Rattle.std.proofs.Common.{◌≡◌, ℕ, Some}
use Rattle.std.specs.Prelude.{◌⊎◌}
use Rattle.flow_system.specs.Shown.{tables_of, inclusions_of}
use Rattle.points_to.specs.Known.{held}
use Rattle.points_to.specs.Noted.{noted_at, AreFirstWords}
use Rattle.points_to.specs.Stored.{values_in}
use Rattle.points_to.proofs.Sets.{on_ok}
use Rattle.points_to.proofs.SiteTags.{first_more}
use Rattle.points_to.proofs.stored_tags.note_first_words.Goals as goal

pub returns : goal.returns
returns c =
    let p = tables_of c.args.system.now in
    let vs = values_in (inclusions_of c.args.system.now) in
    let H = held c.args.facts.now in
    let old = c.args.noted.now in
    let new = c.put.new.self in
    let words = c.in_ok-words.words in
    on_ok c.put.result
    ((m : ℕ) → (noted_at new m ≡ noted_at old m)
    ⊎ ((m ≡ c.args.n) × (noted_at new m ≡ Some words)))
    (AreFirstWords p vs H old → AreFirstWords p vs H new)
    (λ put are. first_more p vs H old new c.args.n words are c.in_ok-words.ensures put)
    c.put.ensures

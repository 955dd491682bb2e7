use Rattle.std.proofs.Common.{List, length, subst}
use Rattle.rv32_items.specs.declared.Item.{Item}
use Rattle.rv32_layout.specs.declared.form.Way.{Way}
use Rattle.rv32_layout.specs.Places.{code, Encode, AllShort}
use Rattle.rv32_layout.specs.Spots.{KnowsLabelSpots}
use Rattle.rv32_layout.proofs.Encodes.{all_decode}
use Rattle.rv32_layout.proofs.Labelled.{is_placement}
use Rattle.rv32_layout.proofs.Table.{has_spot}
use Rattle.rv32_layout.proofs.place.Goals as goal

pub addresses-requires : goal.addresses-requires
addresses-requires c l lt =
    let items : List Item = c.args.asm.now.items in
    let plan = c.in_ok-plan.plan in
    let known : KnowsLabelSpots items plan.ways.items (length items) plan.spots
    = subst (λ is. KnowsLabelSpots is plan.ways.items (length is) plan.spots)
    c.as_slice-items.ensures c.in_ok-plan.ensures.plan.known in
    has_spot items plan.ways.items plan.spots known c.requires.size l (c.requires.asked l lt)

pub returns-clause-placed : goal.returns-clause-placed
returns-clause-placed c =
    let items : List Item = c.args.asm.now.items in
    let plan = c.in_ok-plan.plan in
    let ways : List Way = plan.ways.items in
    let known : KnowsLabelSpots items ways (length items) plan.spots
    = subst (λ is. KnowsLabelSpots is ways (length is) plan.spots) c.as_slice-items.ensures
    c.in_ok-plan.ensures.plan.known in
    let encode = subst (λ is. Encode (code ways is (length is)) c.in_ok-words.words.items)
    c.as_slice-items.ensures c.in_ok-words.ensures in
    is_placement items ways plan.spots known c.requires.size c.requires.labels c.requires.plain
    c.args.labels c.requires.asked _ encode c.in_ok-addresses.ensures

pub returns-clause-decode : goal.returns-clause-decode
returns-clause-decode c =
    let items : List Item = c.args.asm.now.items in
    let ways : List Way = c.in_ok-plan.plan.ways.items in
    let encode = subst (λ is. Encode (code ways is (length is)) c.in_ok-words.words.items)
    c.as_slice-items.ensures c.in_ok-words.ensures in
    all_decode (code ways items (length items)) c.in_ok-words.words.items encode

pub returns-clause-short : goal.returns-clause-short
returns-clause-short c =
    let items : List Item = c.args.asm.now.items in
    let ways : List Way = c.in_ok-plan.plan.ways.items in
    let short : AllShort items ways = subst (λ is. AllShort is ways) c.as_slice-items.ensures
    c.in_ok-plan.ensures.short in
    let encode = subst (λ is. Encode (code ways is (length is)) c.in_ok-words.words.items)
    c.as_slice-items.ensures c.in_ok-words.ensures in
    record { ways = ways; short = short; encode = encode }

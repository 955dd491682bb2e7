use Rattle.std.proofs.Common.{◌≡◌, ◌++◌, codes, OnOk, append_assoc, ap, ◌∙◌, subst}
use Rattle.image_trace.specs.Profile.{number_of, count_line}
use Rattle.image_trace.proofs.profile.put_line.Goals as goal

pub returns : goal.returns
unfolding count_line
returns c =
    let text = c.args.text.now in
    let name = c.args.name.now in
    let entries = number_of (codes " entries ") c.args.entries in
    let instructions = number_of (codes " instructions ") c.args.instructions in
    let end = codes "\n" in
    subst (λ t. OnOk c.put.result (c.put.new.self ≡ t))
    (ap (λ t. t ++ end) (c.in_ok-put_number-2.ensures
    ∙ ap (λ t. t ++ instructions) (c.in_ok-put_number.ensures
    ∙ ap (λ t. t ++ entries) c.in_ok-bytes.ensures))
    ∙ append_assoc ((text ++ name) ++ entries) instructions end
    ∙ append_assoc (text ++ name) entries (instructions ++ end)
    ∙ append_assoc text name (entries ++ (instructions ++ end)))
    c.put.ensures

use Rattle.std.proofs.Common.{◌≡◌, ℕ, List, map, ap, ◌∙◌}
use Rattle.std.specs.Prelude.{slice_get}
use Rattle.core_reader.specs.Tree.{Data, data_of, function}
use Rattle.arity_check.specs.Tables.{kind_or_plain, first_of, second_of}
use Rattle.arity_check.specs.Whole.{kind_of, kind_at, function_at, constructor_at}
use Rattle.arity_check.proofs.Steps.{kinds_at, fields_of_table, number_of_table}
use Rattle.arity_check.proofs.globals.Globals.new.Goals as goal

pub returns : goal.returns
returns c =
    let kind : (x : ℕ) → kind_or_plain (slice_get c.in_ok-kinds.field-0.items x) ≡ kind_at
    (slice_get c.args.core.now.names x) =
    λ x. ap (λ v. kind_or_plain (slice_get v x)) c.in_ok-kinds.ensures ∙ ap
    (λ ns. kind_or_plain (slice_get (map kind_of ns) x)) c.texts.ensures ∙ kinds_at
    c.args.core.now.names x in
    let functions = λ (x : ℕ). c.in_ok-functions.ensures x ∙ ap
    (λ fs. function_at (map function fs) 0 x) c.as_slice.ensures in
    let table = λ (x : ℕ). c.in_ok-constructors.ensures x ∙ ap
    (λ ds. constructor_at (map data_of ds) 0 x) c.as_slice-2.ensures in
    let ds : List Data = map data_of c.args.core.now.constructors in
    let fields = λ (x : ℕ). ap second_of (table x) ∙ fields_of_table ds 0 x in
    let number = λ (x : ℕ). ap first_of (table x) ∙ number_of_table ds x in
    λ i. record {
      kind = λ x. kind x i;
      function = λ x. functions x i;
      fields = λ x. fields x i;
      number
          = λ x. number x i;
    }

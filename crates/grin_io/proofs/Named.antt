-- The first file with a name, found by its place.
use Rattle.std.proofs.Common.{◌≡◌, ℕ, suc, ◌+◌, ◌≤◌, List, [], ◌∷◌, Bool, true, false, cond, length, Option, Some, None, refl, sym, ap, ◌∙◌, subst, ◌⊎◌, inl, inr, arith}
use Rattle.std.specs.Prelude.{slice_get, position, bytes_eq, string_bytes, is_some, option_map, IsSomeAnd}
use Rattle.std.specs.List.{position_from}
use Rattle.std.proofs.lemmas.Iterator.Adapters.{position_from-zero}
use Rattle.std.proofs.lemmas.Slice.Eq.{bytes_eq-Decides}
use Rattle.grin_io.specs.declared.memory.MemFile.{MemFile}
use Rattle.grin_io.specs.Content.{file_named}
use Rattle.grin_io.specs.Folder.{named_files, OpensFileAt}

abbrev has_name : List ℕ → MemFile → Bool
has_name name f = bytes_eq (string_bytes f.name) name

decide : (b : Bool) → (b ≡ true) ⊎ (b ≡ false)
decide true = inl refl
decide false = inr refl

-- the search stops at a file with the name, of which no earlier one has it, or there is none
record Found (name : List ℕ) (files : List MemFile) (i : ℕ) : Type 0 where
  at : ℕ
  file : MemFile
  place : position_from (has_name name) i files ≡ Some (i + at)
  stands : slice_get (named_files files) at ≡ Some (string_bytes file.name, file.bytes.items)
  name_is : has_name name file ≡ true
  first : file_named name (named_files files) ≡ Some file.bytes.items

record Missing (name : List ℕ) (files : List MemFile) (i : ℕ) : Type 0 where
  place : position_from (has_name name) i files ≡ None
  none : file_named name (named_files files) ≡ None

search_from : (name : List ℕ) (files : List MemFile) (i : ℕ) → Found name files i
    ⊎ Missing name files i
search_from name [] i = inr (record { place = refl; none = refl })
search_from name (f ∷ files) i = elim (decide (has_name name f)) [
  | inl e ↦ inl (record {
    at = 0;
    file = f;
    place = ap (λ b. cond b (Some i) (position_from (has_name name) (i + 1) files)) e ∙ ap Some
        (omega arith);
    stands = refl;
    name_is = e;
    first = ap (λ b. cond b (Some f.bytes.items) (file_named name (named_files files))) e;
  })
  | inr e ↦ elim (search_from name files (i + 1)) [
    | inl r ↦ inl (record {
      at = suc r.at;
      file = r.file;
      place = ap (λ b. cond b (Some i) (position_from (has_name name) (i + 1) files)) e ∙ r.place ∙
          ap Some (omega arith);
      stands = r.stands;
      name_is = r.name_is;
      first = ap (λ b. cond b (Some f.bytes.items) (file_named name (named_files files))) e ∙
          r.first;
    })
    | inr r ↦ inr (record {
      place = ap (λ b. cond b (Some i) (position_from (has_name name) (i + 1) files)) e ∙ r.place;
      none = ap (λ b. cond b (Some f.bytes.items) (file_named name (named_files files))) e ∙ r.none;
    })
  ]
]

here : (name : List ℕ) (named : List (List ℕ × List ℕ)) (at : ℕ) (f : List ℕ × List ℕ)
    → slice_get named at ≡ Some f → f.0 ≡ name → file_named name named ≡ Some f.1
    → OpensFileAt name named (Some at)
here name named at f stands same first = record {
  found = sym (ap is_some first);
  opened = ap (option_map (λ g. (g.0, 0))) stands ∙ ap (λ n. Some (n, 0)) same ∙ sym
      (ap (option_map (λ _. (name, 0))) first);
  sound = subst (λ o. IsSomeAnd o (λ g. (file_named g.0 named ≡ Some g.1) × (0 ≤ length g.1)))
      (sym stands) (ap (λ n. file_named n named) same ∙ first, omega arith);
}

pub opens_at : (name : List ℕ) (files : List MemFile) (index : Option ℕ)
    → index ≡ position (has_name name) files → OpensFileAt name (named_files files) index
opens_at name files index e =
    let from : index ≡ position_from (has_name name) 0 files
    = e ∙ position_from-zero (has_name name) files in
    elim (search_from name files 0) [
      | inl r ↦
          let at : Some r.at ≡ index = ap Some (omega arith) ∙ sym r.place ∙ sym from in
          let same : string_bytes r.file.name ≡ name
          = (bytes_eq-Decides (string_bytes r.file.name) name).0 r.name_is in
          subst (OpensFileAt name (named_files files)) at
          (here name (named_files files) r.at (string_bytes r.file.name, r.file.bytes.items)
          r.stands same r.first)
      | inr r ↦
          let at : None ≡ index = sym r.place ∙ sym from in
          subst (OpensFileAt name (named_files files)) at (record {
            found = sym (ap is_some r.none);
            opened = sym (ap (option_map (λ _. (name, 0))) r.none);
            sound = tt;
          })
    ]

-- The first rule that texts break, by those that each text breaks.
use Rattle.std.proofs.Common.{◌≡◌, ℕ, zero, suc, ◌+◌, ◌<◌, ◌≤◌, List, [], ◌∷◌, ◌++◌, length, get_or, take, refl, sym, ap, subst, ◌∙◌, arith, Option, Some, None, inl, inr}
use Rattle.std.specs.Prelude.{slice_get}
use Rattle.std.specs.List.{AllZip}
use Rattle.seq.specs.Lists.{AllOf}
use Rattle.std.proofs.lemmas.List.{take_all}
use Rattle.seq.proofs.Order.{compared}
use Rattle.seq.proofs.Lists.{all_get, all_push}
use Rattle.core_reader.specs.Readable.{IsReadable}
use Rattle.core_link.specs.declared.refusal.LinkRefusal.{LinkRefusal}
use Rattle.core_link.specs.declared.imports.ImportFaults.{ImportFaults}
use Rattle.core_link.specs.Module.{Module, IsModuleText, body}
use Rattle.core_link.specs.Rules.{RuleGroup, BrokenIn, Unread, OfModule, Broken, InFile, NoMainModule, OfFiles, rank, rank_in, IsBefore, IsFirstIn, IsFirstBroken, IsSound, IsNamed, IsCause, IsCauseIn, rule_of}
use Rattle.core_link.specs.Shared.{AreRead, ModuleIsAppended, AreImportFaults}
use Rattle.core_link.proofs.Places.{at_taken}
use Rattle.core_link.proofs.Tables.{take_at}

ranked_in : (text : List ℕ) (g : RuleGroup) (k file at : ℕ) → BrokenIn text g k at
    → rank g k file at ≡ 0 ∷ file ∷ rank_in g k at
ranked_in text g k file at (Unread b) = refl
ranked_in text g k file at (OfModule m t o) = refl

same_text : (texts : List (List ℕ)) (i j : ℕ) (t u : List ℕ) → i ≡ j → slice_get texts i ≡ Some t
    → slice_get texts j ≡ Some u → t ≡ u
same_text texts i j t u s e f = let h : Some t ≡ Some u = sym e ∙ ap (slice_get texts) s ∙ f in cc

module _ (texts : List (List ℕ)) (file : ℕ) (text : List ℕ) (is : slice_get texts file ≡ Some text)
    (sound : (i : ℕ) (t : List ℕ) → i < file → slice_get texts i ≡ Some t → IsSound t) where
  abbrev FirstOfText : RuleGroup → (k at : ℕ) → Type 0
  FirstOfText g k at = (g' : RuleGroup) (k' at' : ℕ) → BrokenIn text g' k' at'
      → IsBefore (rank_in g k at) (rank_in g' k' at')

  by_file : (g : RuleGroup) (k at : ℕ) → FirstOfText g k at
      → (t : List ℕ) (g' : RuleGroup) (k' file' at' : ℕ) → slice_get texts file' ≡ Some t
      → BrokenIn t g' k' at' → IsBefore (file ∷ rank_in g k at) (file' ∷ rank_in g' k' at')
  by_file g k at f t g' k' file' at' e b = elim (compared file file') [
    | inl l ↦ inl l
    | inr m ↦ elim m [
      | inl s ↦ inr (
        s,
        f g' k' at'
            (subst (λ w. BrokenIn w g' k' at') (same_text texts file' file t text (sym s) e is) b),
      )
      | inr l ↦ absurd (sound file' t l e g' k' at' b)
    ]
  ]

  in_texts : (g : RuleGroup) (k at : ℕ) → BrokenIn text g k at → FirstOfText g k at
      → (g' : RuleGroup) (k' file' at' : ℕ) → Broken texts g' k' file' at'
      → IsBefore (rank g k file at) (rank g' k' file' at')
  in_texts g k at b f g' k' file' at' (InFile {text = t} e b') =
      subst (λ r. IsBefore r (rank g' k' file' at')) (sym (ranked_in text g k file at b))
      (subst (IsBefore (0 ∷ file ∷ rank_in g k at)) (sym (ranked_in t g' k' file' at' b'))
      (inr (refl, by_file g k at f t g' k' file' at' e b')))
  in_texts g k at b f g' k' file' at' (NoMainModule ms z l)
      = subst (λ r. IsBefore r (1 ∷ [])) (sym (ranked_in text g k file at b)) (inl (omega arith))
  in_texts g k at b f g' k' file' at' (OfFiles ms z c)
      = subst (λ r. IsBefore r (2 ∷ file' ∷ at' ∷ k' ∷ [])) (sym (ranked_in text g k file at b))
      (inl (omega arith))

  -- What the text breaks first all texts break first, where those before it break nothing.
  pub first_in_texts : (k at : ℕ) → IsFirstIn text k at → IsFirstBroken texts k file at
  first_in_texts k at f = record {
    group = f.group;
    broken = InFile is f.broken;
    first
        = in_texts f.group k at f.broken f.first;
  }

-- the first rule of a text is the first of all, where those before it break none
pub cause_in : (texts : List (List ℕ)) (file : ℕ) (text : List ℕ) → slice_get texts file ≡ Some text
    → ((i : ℕ) (t : List ℕ) → i < file → slice_get texts i ≡ Some t → IsSound t) → (r : LinkRefusal)
    → IsCauseIn text file r → IsCause texts r
cause_in texts file text is sound r = by (rule_of r.kind)
  where
    by : (o : Option (ℕ × ℕ)) → IsNamed (λ k at. (r.file ≡ file) × IsFirstIn text k at) r.file o
        → IsNamed (λ k at. IsFirstBroken texts k r.file at) r.file o
    by None h = h
    by (Some f) h = subst (λ n. IsFirstBroken texts f.0 n f.1) (sym h.0)
        (first_in_texts texts file text is sound f.0 f.1 h.1)

-- ---- the texts that were read

sound_before : (texts : List (List ℕ)) (n : ℕ) → AllOf IsSound (take n texts) → (i : ℕ) (t : List ℕ)
    → i < n → slice_get texts i ≡ Some t → IsSound t
sound_before texts n h i t l e = all_get IsSound (take n texts) i t h (at_taken n texts i t l e)

pub file_refused : (texts : List (List ℕ)) (file : ℕ) (text : List ℕ) (r : LinkRefusal)
    → slice_get texts file ≡ Some text → AllOf IsSound (take file texts) → IsCauseIn text file r
    → IsCause texts r
file_refused texts file text r is h c = cause_in texts file text is (sound_before texts file h) r c

zip_push : {X Y : Type 0} (P : X → Y → Type 0) (xs : List X) (ys : List Y) (x : X) (y : Y)
    → AllZip P xs ys → P x y → AllZip P (xs ++ x ∷ []) (ys ++ y ∷ [])
zip_push P [] [] x y h p = (p, tt)
zip_push P [] (b ∷ ys) x y h p = absurd h
zip_push P (a ∷ xs) [] x y h p = absurd h
zip_push P (a ∷ xs) (b ∷ ys) x y h p = (h.0, zip_push P xs ys x y h.1 p)

pub none_read : AreRead [] [] []
none_read = record { modules = tt; readable = tt; takings = tt }

pub read_next : (texts : List (List ℕ)) (file : ℕ) (text : List ℕ) (ms : List Module) (m : Module)
    (ts : List ImportFaults) (t : ImportFaults) → slice_get texts file ≡ Some text
    → AreRead (take file texts) ms ts
    → IsModuleText text m → IsReadable (body m) → AreImportFaults m t
    → AreRead (take (file + 1) texts) (ms ++ m ∷ []) (ts ++ t ∷ [])
read_next texts file text ms m ts t is h found readable taking = record {
  modules = subst (λ us. AllZip IsModuleText us (ms ++ m ∷ [])) (sym (take_at texts file text is))
      (zip_push IsModuleText (take file texts) ms text m h.modules found);
  readable = all_push (λ q. IsReadable (body q)) ms m h.readable readable;
  takings = zip_push AreImportFaults ms ts m t h.takings taking;
}

pub sound_next : (texts : List (List ℕ)) (file : ℕ) (text : List ℕ)
    → slice_get texts file ≡ Some text → AllOf IsSound (take file texts) → IsSound text
    → AllOf IsSound (take (file + 1) texts)
sound_next texts file text is h s = subst (AllOf IsSound) (sym (take_at texts file text is))
    (all_push IsSound (take file texts) text h s)

pub zip_length : {X Y : Type 0} (P : X → Y → Type 0) (xs : List X) (ys : List Y) → AllZip P xs ys
    → length xs ≡ length ys
zip_length P [] [] h = refl
zip_length P [] (y ∷ ys) h = absurd h
zip_length P (x ∷ xs) [] h = absurd h
zip_length P (x ∷ xs) (y ∷ ys) h = ap suc (zip_length P xs ys h.1)

-- the module of one more text was read and kept
pub kept_next : (texts : List (List ℕ)) (file : ℕ) (text : List ℕ) (old new : List Module)
    (m : Module) (ts us : List ImportFaults) → slice_get texts file ≡ Some text
    → AreRead (take file texts) old ts
    → IsModuleText text m → IsReadable (body m) → ModuleIsAppended m old new ts us
    → AreRead (take (file + 1) texts) new us
kept_next texts file text old new m ts us is h found readable kept =
    subst (λ qs. AreRead (take (file + 1) texts) qs us) (sym kept.modules)
    (subst (AreRead (take (file + 1) texts) (old ++ m ∷ [])) (sym kept.takings)
    (read_next texts file text old m ts kept.taking is h found readable kept.is))

pub all_read : (texts : List (List ℕ)) (n : ℕ) (ms : List Module) (ts : List ImportFaults)
    → length texts ≤ n → AreRead (take n texts) ms ts → AreRead texts ms ts
all_read texts n ms ts l h = subst (λ us. AreRead us ms ts) (take_all n texts l) h

pub all_sound : (texts : List (List ℕ)) (n : ℕ) → length texts ≤ n → AllOf IsSound (take n texts)
    → AllOf IsSound texts
all_sound texts n l h = subst (AllOf IsSound) (take_all n texts l) h

pub zip_or : {X Y : Type 0} (P : X → Y → Type 0) (xs : List X) (ys : List Y) (i : ℕ) (x : X) (d : Y)
    → AllZip P xs ys → slice_get xs i ≡ Some x → P x (get_or ys i d)
zip_or P [] ys i x d h e = absurd cc
zip_or P (a ∷ xs) [] i x d h e = absurd h
zip_or P (a ∷ xs) (b ∷ ys) zero x d h e = let s : a ≡ x = cc in subst (λ u. P u b) s h.0
zip_or P (a ∷ xs) (b ∷ ys) (suc i) x d h e = zip_or P xs ys i x d h.1 e

-- The names of a linked program differ where what they are made of differs.
use Rattle.std.proofs.Common.{◌≡◌, ℕ, Bool, true, false, List, [], ◌∷◌, ◌++◌, refl, sym, ap, ◌∙◌, arith}
use Rattle.std.specs.Prelude.{◌≢◌, ◌&&◌, codes, if◌then◌else◌}
use Rattle.std.specs.List.{list_all}
use Rattle.std.specs.Str.{bytes_eq}
use Rattle.arity_check.proofs.Names.{same_bytes}
use Rattle.core_link.specs.Module.{is_alphanumeric}
pub use Rattle.core_link.specs.Joinable.{IsPlain}
use Rattle.core_link.specs.Union.{global_text, local_text}

both : (b c : Bool) → (b && c) ≡ true → (b ≡ true) × (c ≡ true)
both true c e = (refl, e)
both false c e = absurd cc

head_same : (x y : ℕ) (xs ys : List ℕ) → x ∷ xs ≡ y ∷ ys → x ≡ y
head_same x y xs ys e = cc

tail_same : (x y : ℕ) (xs ys : List ℕ) → x ∷ xs ≡ y ∷ ys → xs ≡ ys
tail_same x y xs ys e = cc

-- a `'` stands in no plain text
no_quote : (f rest : List ℕ) → IsPlain (f ++ 39 ∷ rest) → ⊥
no_quote [] rest h = let e = (both (is_alphanumeric 39) (list_all is_alphanumeric rest) h).0 in cc
no_quote (x ∷ f) rest h = no_quote f rest
    (both (is_alphanumeric x) (list_all is_alphanumeric (f ++ 39 ∷ rest)) h).1

pub plain_quote : (w f rest : List ℕ) → IsPlain w → w ≡ f ++ 39 ∷ rest → ⊥
plain_quote w f rest h e = no_quote f rest (sym (ap (list_all is_alphanumeric) e) ∙ h)

-- a text is cut at its last `'` in one way
cut_once : (f g n m : List ℕ) → IsPlain n → IsPlain m → f ++ 39 ∷ n ≡ g ++ 39 ∷ m → (f ≡ g)
    × (n ≡ m)
cut_once [] [] n m h k e = (refl, tail_same 39 39 n m e)
cut_once [] (y ∷ g) n m h k e = absurd (plain_quote n g m h (tail_same 39 y n (g ++ 39 ∷ m) e))
cut_once (x ∷ f) [] n m h k e = absurd
    (plain_quote m f n k (sym (tail_same x 39 (f ++ 39 ∷ n) m e)))
cut_once (x ∷ f) (y ∷ g) n m h k e =
    let r = cut_once f g n m h k (tail_same x y (f ++ 39 ∷ n) (g ++ 39 ∷ m) e) in
    ((λ i. head_same x y (f ++ 39 ∷ n) (g ++ 39 ∷ m) e i ∷ r.0 i), r.1)

-- ---- functions

-- `main` of `Main` keeps its name, and every other function has its module's name behind a `'`
pub data GlobalIs (f n w : List ℕ) : Type 0 where
  Kept : f ≡ codes "main" → n ≡ codes "Main" → w ≡ f → GlobalIs f n w
  Cut : w ≡ f ++ 39 ∷ n → GlobalIs f n w

global_by : (f n : List ℕ) (b : Bool) → (bytes_eq f (codes "main") && bytes_eq n (codes "Main")) ≡ b
    → GlobalIs f n (if b then f else f ++ codes "'" ++ n)
global_by f n true e =
    let h = both (bytes_eq f (codes "main")) (bytes_eq n (codes "Main")) e in
    Kept (same_bytes f (codes "main") h.0) (same_bytes n (codes "Main") h.1) refl
global_by f n false e = Cut (grouped f n)
  where
    grouped : (f n : List ℕ) → f ++ codes "'" ++ n ≡ f ++ 39 ∷ n
    grouped [] n = refl
    grouped (x ∷ f) n = ap (λ w. x ∷ w) (grouped f n)

pub global_is : (f n : List ℕ) → GlobalIs f n (global_text f n)
global_is f n = global_by f n (bytes_eq f (codes "main") && bytes_eq n (codes "Main")) refl

pub main_plain : IsPlain (codes "main")
main_plain = refl

globals_by : (f g n m w v : List ℕ) → IsPlain n → IsPlain m → GlobalIs f n w → GlobalIs g m v
    → w ≡ v → (f ≡ g) × (n ≡ m)
globals_by f g n m w v h k (Kept a b c) (Kept d e i) same = (a ∙ sym d, b ∙ sym e)
globals_by f g n m w v h k (Kept a b c) (Cut d) same
    = absurd (plain_quote (codes "main") g m main_plain (sym a ∙ sym c ∙ same ∙ d))
globals_by f g n m w v h k (Cut d) (Kept a b c) same
    = absurd (plain_quote (codes "main") f n main_plain (sym a ∙ sym c ∙ sym same ∙ d))
globals_by f g n m w v h k (Cut d) (Cut e) same = cut_once f g n m h k (sym d ∙ same ∙ e)

-- a function's name says which function of which module it is
pub global_one : (f g n m : List ℕ) → IsPlain n → IsPlain m → global_text f n ≡ global_text g m
    → (f ≡ g) × (n ≡ m)
global_one f g n m h k e = globals_by f g n m (global_text f n) (global_text g m) h k
    (global_is f n) (global_is g m) e

-- ---- locals

pub data LocalIs (x w : List ℕ) : Type 0 where
  Nameless : x ≡ codes "_" → w ≡ x → LocalIs x w
  Quoted : w ≡ x ++ 39 ∷ [] → LocalIs x w

local_by : (x : List ℕ) (b : Bool) → bytes_eq x (codes "_") ≡ b
    → LocalIs x (if b then x else x ++ codes "'")
local_by x true e = Nameless (same_bytes x (codes "_") e) refl
local_by x false e = Quoted refl

pub local_is : (x : List ℕ) → LocalIs x (local_text x)
local_is x = local_by x (bytes_eq x (codes "_")) refl

-- `_` has no `'`
pub nameless_quote : (f rest : List ℕ) → codes "_" ≡ f ++ 39 ∷ rest → ⊥
nameless_quote [] rest e = let h : 95 ≡ 39 = head_same 95 39 [] rest e in omega (arith, h)
nameless_quote (x ∷ f) rest e = not_empty f (tail_same 95 x [] (f ++ 39 ∷ rest) e)
  where
    not_empty : (f : List ℕ) → [] ≡ f ++ 39 ∷ rest → ⊥
    not_empty [] e = cc
    not_empty (y ∷ f) e = cc

locals_by : (x y w v : List ℕ) → LocalIs x w → LocalIs y v → w ≡ v → x ≡ y
locals_by x y w v (Nameless a b) (Nameless c d) same = a ∙ sym c
locals_by x y w v (Nameless a b) (Quoted d) same = absurd
    (nameless_quote y [] (sym a ∙ sym b ∙ same ∙ d))
locals_by x y w v (Quoted d) (Nameless a b) same = absurd
    (nameless_quote x [] (sym a ∙ sym b ∙ sym same ∙ d))
locals_by x y w v (Quoted d) (Quoted e) same = (cut_once x y [] [] refl refl (sym d ∙ same ∙ e)).0

pub local_one : (x y : List ℕ) → local_text x ≡ local_text y → x ≡ y
local_one x y e = locals_by x y (local_text x) (local_text y) (local_is x) (local_is y) e

mixed_by : (x f n w v : List ℕ) → IsPlain n → n ≢ [] → LocalIs x w → GlobalIs f n v → w ≡ v → ⊥
mixed_by x f n w v h some (Nameless a b) (Kept c d e) same = let h : 95 ≡ 109
    = head_same 95 109 [] (97 ∷ 105 ∷ 110 ∷ []) (sym a ∙ sym b ∙ same ∙ e ∙ c) in omega (arith, h)
mixed_by x f n w v h some (Nameless a b) (Cut d) same
    = nameless_quote f n (sym a ∙ sym b ∙ same ∙ d)
mixed_by x f n w v h some (Quoted d) (Kept a b c) same
    = plain_quote (codes "main") x [] main_plain (sym a ∙ sym c ∙ sym same ∙ d)
mixed_by x f n w v h some (Quoted d) (Cut e) same = some
    (sym (cut_once x f [] n refl h (sym d ∙ same ∙ e)).1)

-- no local has a function's name
pub local_not_global : (x f n : List ℕ) → IsPlain n → n ≢ [] → local_text x ≢ global_text f n
local_not_global x f n h some e = mixed_by x f n (local_text x) (global_text f n) h some
    (local_is x) (global_is f n) e

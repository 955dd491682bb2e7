-- The alternatives of a case, of which those for delayed calls wait until the others stand.
use Rattle.std.proofs.Common.{◌≡◌, ℕ, Bool, true, false, cond, ◌||◌, List, [], ◌∷◌, ◌++◌, map, get_or, None, slice_get, refl, sym, ap, ◌∙◌}
use Rattle.std.specs.Option.{unwrap_or}
use Rattle.std.proofs.lemmas.Option.{unwrap_or-slice_get}
use Rattle.grin_syntax.specs.declared.program.Alt.{Alt}
use Rattle.grin_syntax.specs.declared.program.Shape.{Shape}
use Rattle.grin_syntax.specs.Tree.{Code, Arms, no_arm, arm, arm_of, arms_of}
use Rattle.grin_syntax.specs.Formed.{AllOf}
use Rattle.grin_syntax.proofs.TreeOf.{arm_of-parts}
use Rattle.pass_order.specs.Order.{is_else, is_delayed_call, behind_values, values_first}

pub none_there : (bs : List Bool) (i : ℕ) → slice_get bs i ≡ None → get_or bs i false ≡ false
none_there bs i e = sym (unwrap_or-slice_get bs i false) ∙ ap (λ o. unwrap_or o false) e

pub not_else : (a : Alt) (k : Bool) → is_else a.pattern ≡ k → is_else (arm_of a).0 ≡ k
not_else a k e = ap (λ p. is_else p.0) (arm_of-parts a) ∙ e

-- alternatives in front of others
abbrev front : List Alt → Arms → Arms
front [] rest = rest
front (a ∷ as') rest = arm (arm_of a).0 (arm_of a).1 (front as' rest)

front_more : (as' bs : List Alt) (rest : Arms) → front (as' ++ bs) rest ≡ front as' (front bs rest)
front_more [] bs rest = refl
front_more (a ∷ as') bs rest = ap (arm (arm_of a).0 (arm_of a).1) (front_more as' bs rest)

front_all : (as' : List Alt) → front as' no_arm ≡ arms_of (map arm_of as')
front_all [] = refl
front_all (a ∷ as') = ap (arm (arm_of a).0 (arm_of a).1) (front_all as')

module _ (delayed : List Bool) where
  abbrev pub IsCall : Alt → Type 0
  IsCall a = is_delayed_call delayed (arm_of a).0 ≡ true

  pub called : (a : Alt) (k : Bool) → is_delayed_call delayed a.pattern ≡ k
      → is_delayed_call delayed (arm_of a).0 ≡ k
  called a k e = ap (λ p. is_delayed_call delayed p.0) (arm_of-parts a) ∙ e

  -- all of these behind values
  abbrev waiting : List Alt → Arms → Arms
  waiting [] rest = rest
  waiting (a ∷ as') rest = behind_values delayed (arm_of a).0 (arm_of a).1 (waiting as' rest)

  waiting_more : (as' bs : List Alt) (rest : Arms)
      → waiting (as' ++ bs) rest ≡ waiting as' (waiting bs rest)
  waiting_more [] bs rest = refl
  waiting_more (a ∷ as') bs rest =
      ap (behind_values delayed (arm_of a).0 (arm_of a).1) (waiting_more as' bs rest)

  -- a value comes before them
  value_first : (calls : List Alt) (s : Shape) (b : Code) (rest : Arms)
      → (is_delayed_call delayed s || is_else s) ≡ false
      → waiting calls (arm s b rest) ≡ arm s b (waiting calls rest)
  value_first [] s b rest e = refl
  value_first (a ∷ as') s b rest e =
      ap (behind_values delayed (arm_of a).0 (arm_of a).1) (value_first as' s b rest e)
      ∙ ap (λ k. cond k (arm (arm_of a).0 (arm_of a).1 (arm s b (waiting as' rest)))
      (arm s b (behind_values delayed (arm_of a).0 (arm_of a).1 (waiting as' rest)))) e

  -- no value comes
  abbrev NoValue : Arms → Type 0
  NoValue no_arm = Unit {0}
  NoValue (arm s b as') = (is_delayed_call delayed s || is_else s) ≡ true

  at_front : (s : Shape) (b : Code) (rest : Arms) → NoValue rest
      → behind_values delayed s b rest ≡ arm s b rest
  at_front s b no_arm n = refl
  at_front s b (arm u c as') n =
      ap (λ k. cond k (arm s b (arm u c as')) (arm u c (behind_values delayed s b as'))) n

  call_stops : (b c : Bool) → b ≡ true → (b || c) ≡ true
  call_stops true c e = refl
  call_stops false c e = absurd cc

  no_value : (calls : List Alt) → AllOf IsCall calls → (rest : Arms) → NoValue rest
      → NoValue (front calls rest)
  no_value [] h rest n = n
  no_value (a ∷ as') h rest n = call_stops (is_delayed_call delayed (arm_of a).0) _ h.0

  in_place : (calls : List Alt) → AllOf IsCall calls → (rest : Arms) → NoValue rest
      → waiting calls rest ≡ front calls rest
  in_place [] h rest n = refl
  in_place (a ∷ as') h rest n =
      ap (behind_values delayed (arm_of a).0 (arm_of a).1) (in_place as' h.1 rest n)
      ∙ at_front (arm_of a).0 (arm_of a).1 (front as' rest) (no_value as' h.1 rest n)

  -- of the first alternatives these stand, and these wait
  pub record Parted (made calls from : List Alt) : Type 0 where
    pub are_calls : AllOf IsCall calls
    pub by : (rest : Arms) → values_first delayed (front from rest)
        ≡ front made (waiting calls (values_first delayed rest))

  pub none_parted : Parted [] [] []
  none_parted = record { are_calls = tt; by = λ rest. refl }

  all_calls : (calls : List Alt) (a : Alt) → AllOf IsCall calls → IsCall a
      → AllOf IsCall (calls ++ a ∷ [])
  all_calls [] a h e = (e, tt)
  all_calls (b ∷ bs) a h e = (h.0, all_calls bs a h.1 e)

  module _ (made calls from : List Alt) (p : Parted made calls from) (a : Alt) where
    abbrev s : Shape
    s = (arm_of a).0

    abbrev b : Code
    b = (arm_of a).1

    one_more : (rest : Arms) → values_first delayed (front (from ++ a ∷ []) rest)
        ≡ front made (waiting calls (values_first delayed (arm s b rest)))
    one_more rest = ap (values_first delayed) (front_more from (a ∷ []) rest)
        ∙ p.by (arm s b rest)

    pub call_waits : IsCall a → Parted made (calls ++ a ∷ []) (from ++ a ∷ [])
    call_waits e = record {
      are_calls = all_calls calls a p.are_calls e;
      by = λ rest. one_more rest
          ∙ ap (λ k. front made (waiting calls
          (cond k (behind_values delayed s b (values_first delayed rest))
          (arm s b (values_first delayed rest))))) e
          ∙ ap (front made) (sym (waiting_more calls (a ∷ []) (values_first delayed rest)));
    }

    stands : is_delayed_call delayed s ≡ false → (rest : Arms)
        → values_first delayed (front (from ++ a ∷ []) rest)
        ≡ front made (waiting calls (arm s b (values_first delayed rest)))
    stands e rest = one_more rest
        ∙ ap (λ k. front made (waiting calls
        (cond k (behind_values delayed s b (values_first delayed rest))
        (arm s b (values_first delayed rest))))) e

    pub value_stands : is_delayed_call delayed s ≡ false → is_else s ≡ false
        → Parted (made ++ a ∷ []) calls (from ++ a ∷ [])
    value_stands e f = record {
      are_calls = p.are_calls;
      by = λ rest. stands e rest
          ∙ ap (front made) (value_first calls s b (values_first delayed rest)
          (λ i. e i || f i))
          ∙ sym (front_more made (a ∷ []) (waiting calls (values_first delayed rest)));
    }

    pub else_stands : is_delayed_call delayed s ≡ false → is_else s ≡ true
        → Parted ((made ++ calls) ++ a ∷ []) [] (from ++ a ∷ [])
    else_stands e f = record {
      are_calls = tt;
      by = λ rest. stands e rest
          ∙ ap (front made) (in_place calls p.are_calls (arm s b (values_first delayed rest))
          (λ i. e i || f i))
          ∙ sym (front_more made calls (arm s b (values_first delayed rest)))
          ∙ sym (front_more (made ++ calls) (a ∷ []) (values_first delayed rest));
    }

  pub all_parted : (made calls from alts : List Alt) → from ≡ alts → Parted made calls from
      → arms_of (map arm_of (made ++ calls)) ≡ values_first delayed (arms_of (map arm_of alts))
  all_parted made calls from alts e p =
      sym (front_all (made ++ calls)) ∙ front_more made calls no_arm
      ∙ ap (front made) (sym (in_place calls p.are_calls no_arm tt))
      ∙ sym (p.by no_arm)
      ∙ ap (values_first delayed) (front_all from)
      ∙ ap (λ l. values_first delayed (arms_of (map arm_of l))) e

-- The entries that the options have, one value more at a time.
use Rattle.std.proofs.Common.{◌≡◌, ℕ, Bool, true, false, ◌&&◌, ◌||◌, List, [], ◌∷◌, ◌++◌, map, Option, Some, None, if◌then◌else◌, is_none, MatchOption, option_to_list, refl, sym, ap, ◌∙◌, arith}
use Rattle.std.specs.List.{list_any}
use Rattle.std.specs.Option.{option_map, option_and_then}
use Rattle.std.specs.Str.{bytes_eq}
use Rattle.std.proofs.lemmas.Slice.Eq.{bytes_eq-Decides}
use Rattle.std.proofs.lemmas.Bool.Decides.{nat_tests}
use Rattle.command_line.specs.Walk.{Entry, unset, with_value, value_of, sets_only}

-- a text is itself, and no other text is it
pub bytes_eq_self : (text : List ℕ) → bytes_eq text text ≡ true
bytes_eq_self text = (bytes_eq-Decides text text).1 refl

bytes_eq_flip : (a b : List ℕ) → bytes_eq a b ≡ bytes_eq b a
bytes_eq_flip a b = by_tests (bytes_eq a b) refl (bytes_eq b a) refl where
  by_tests : (t : Bool) → bytes_eq a b ≡ t → (u : Bool) → bytes_eq b a ≡ u
      → bytes_eq a b ≡ bytes_eq b a
  by_tests true is u is' = is ∙ sym ((bytes_eq-Decides b a).1 (sym ((bytes_eq-Decides a b).0 is)))
  by_tests false is true is' = (bytes_eq-Decides a b).1 (sym ((bytes_eq-Decides b a).0 is')) ∙ sym
      is'
  by_tests false is false is' = is ∙ sym is'

-- the options that have entries
abbrev pub names_of : List Entry → List (List ℕ)
names_of entries = map (λ (entry : Entry). entry.name) entries

abbrev pub entry : (name : List ℕ) → Option (List ℕ) → Entry
entry name value = record { name = name; value = value }

-- The values of an option with one more before them, where that is its own.
abbrev pub more : (own : Bool) (value : List ℕ) (rest : List (List ℕ)) → List (List ℕ)
more own value rest = if own then value ∷ rest else rest

-- one value more stands among the entries
pub record Added (entries : List Entry) (name value : List ℕ) (new : List Entry) : Type 0 where
  pub names : names_of new ≡ names_of entries
  pub given : (option : List ℕ) (rest : List (List ℕ))
      → option_to_list (value_of new option) ++ rest ≡ option_to_list (value_of entries option)
      ++ more (bytes_eq name option) value rest
  pub sets : (options : List (List ℕ)) → sets_only options new ≡ list_any (bytes_eq name) options &&
      sets_only options entries

-- it can't stand there
pub data Barred (entries : List Entry) (name : List ℕ) : Type 0 where
  NoEntry : list_any (bytes_eq name) (names_of entries) ≡ false → Barred entries name
  HasValue : (value : List ℕ) → value_of entries name ≡ Some value → Barred entries name

-- one of the two
abbrev Adds : List Entry → (name value : List ℕ) → Type 0
Adds entries name value = MatchOption (with_value entries name value) (Barred entries name)
    (Added entries name value)

own_sets : (own rest : Bool) → (own || false) && rest ≡ own && ((own || true) && rest)
own_sets own rest = grind (arith, nat_tests)

other_sets : (a own rest : Bool) → a && (own && rest) ≡ own && (a && rest)
other_sets a own rest = grind (arith, nat_tests)

-- the first entry is the option's own
own_given : (name value : List ℕ) (entries : List Entry) (option : List ℕ) (rest : List (List ℕ))
    (is : Bool) → bytes_eq option name ≡ is
    → option_to_list (if is then Some value else value_of entries option) ++ rest
    ≡ option_to_list (if is then None else value_of entries option) ++ more is value rest
own_given name value entries option rest true is = refl
own_given name value entries option rest false is = refl

own_added : (name value : List ℕ) (entries : List Entry)
    → Added (entry name None ∷ entries) name value (entry name (Some value) ∷ entries)
own_added name value entries = record {
  names = refl;
  given = λ option rest. rw (bytes_eq_flip name option)
      (own_given name value entries option rest (bytes_eq option name) refl);
  sets = λ options. own_sets (list_any (bytes_eq name) options) (sets_only options entries);
}

-- it is another's
other_given : (first name value : List ℕ) (held : Option (List ℕ)) (entries new : List Entry)
    → bytes_eq name first ≡ false
    → Added entries name value new → (option : List ℕ) (rest : List (List ℕ)) (is : Bool)
    → bytes_eq option first ≡ is
    → option_to_list (if is then held else value_of new option) ++ rest
    ≡ option_to_list (if is then held else value_of entries option)
    ++ more (bytes_eq name option) value rest
other_given first name value held entries new other added option rest true is =
    let same : option ≡ first = (bytes_eq-Decides option first).0 is in
    rw (same, other) refl
other_given first name value held entries new other added option rest false is
    = added.given option rest

other_added : (first name value : List ℕ) (held : Option (List ℕ)) (entries new : List Entry)
    → bytes_eq name first ≡ false
    → Added entries name value new → Added (entry first held ∷ entries) name value
    (entry first held ∷ new)
other_added first name value held entries new other added = record {
  names = ap (λ names. first ∷ names) added.names;
  given = λ option rest. other_given first name value held entries new other added option rest
      (bytes_eq option first) refl;
  sets = λ options. rw (added.sets options)
      (other_sets (list_any (bytes_eq first) options || is_none held)
      (list_any (bytes_eq name) options) (sets_only options entries));
}

other_barred : (first name : List ℕ) (held : Option (List ℕ)) (entries : List Entry)
    → bytes_eq name first ≡ false
    → Barred entries name → Barred (entry first held ∷ entries) name
other_barred first name held entries other (NoEntry none) = NoEntry (rw (other, none) refl)
other_barred first name held entries other (HasValue value has) = HasValue value (rw other has)

adds_first : (first name value : List ℕ) (held : Option (List ℕ)) (entries : List Entry) (is : Bool)
    → bytes_eq name first ≡ is
    → Adds entries name value → Adds (entry first held ∷ entries) name value
adds_first first name value None entries true is rest =
    let same : name ≡ first = (bytes_eq-Decides name first).0 is in
    rw (same, bytes_eq_self first) (own_added first value entries)
adds_first first name value (Some old) entries true is rest = rw is (HasValue old (rw is refl))
adds_first first name value held entries false is rest
    = rw is (by_rest (with_value entries name value) rest) where
      by_rest : (o : Option (List Entry)) → MatchOption o (Barred entries name)
          (Added entries name value)
          → MatchOption (option_map (λ others. entry first held ∷ others) o)
          (Barred (entry first held ∷ entries) name) (Added (entry first held ∷ entries) name value)
      by_rest None barred = other_barred first name held entries is barred
      by_rest (Some new) added = other_added first name value held entries new is added

pub adds : (entries : List Entry) (name value : List ℕ) → Adds entries name value
adds [] name value = NoEntry refl
adds (e ∷ entries) name value = adds_first e.name name value e.value entries (bytes_eq name e.name)
    refl (adds entries name value)

-- Entries without values give none, and set no option.
unset_first : (is : Bool) (rest : Option (List ℕ)) → rest ≡ None
    → (if is then None else rest) ≡ None
unset_first true rest none = refl
unset_first false rest none = none

pub unset_value : (names : List (List ℕ)) (option : List ℕ)
    → value_of (map unset names) option ≡ None
unset_value [] option = refl
unset_value (name ∷ names) option = unset_first (bytes_eq option name)
    (value_of (map unset names) option) (unset_value names option)

or_true : (a : Bool) → a || true ≡ true
or_true a = grind (arith, nat_tests)

pub unset_sets : (options names : List (List ℕ)) → sets_only options (map unset names) ≡ true
unset_sets options [] = refl
unset_sets options (name ∷ names) = rw (or_true (list_any (bytes_eq name) options))
    (unset_sets options names)

-- Two values change places.
abbrev Exchange : List Entry → (name value name' value' : List ℕ) → Type 0
Exchange entries name value name' value' =
    option_and_then (λ new. with_value new name' value') (with_value entries name value)
    ≡ option_and_then (λ new. with_value new name value) (with_value entries name' value')

-- behind an entry of another option
behind : (first name value : List ℕ) (held : Option (List ℕ)) → bytes_eq name first ≡ false
    → (o : Option (List Entry))
    → option_and_then (λ new. with_value new name value)
    (option_map (λ others. entry first held ∷ others) o)
    ≡ option_map (λ others. entry first held ∷ others)
    (option_and_then (λ new. with_value new name value) o)
behind first name value held other None = refl
behind first name value held other (Some new) = rw other refl

-- the first entry is the option's own, and not the other's
own_and_other : (first name value : List ℕ) → bytes_eq name first ≡ true → (o : Option (List Entry))
    → option_map (λ others. entry first (Some value) ∷ others) o
    ≡ option_and_then (λ new. with_value new name value)
    (option_map (λ others. entry first None ∷ others) o)
own_and_other first name value own None = refl
own_and_other first name value own (Some new) = rw own refl

none_own : (first name value old : List ℕ) → bytes_eq name first ≡ true → (o : Option (List Entry))
    → None ≡ option_and_then (λ new. with_value new name value)
    (option_map (λ others. entry first (Some old) ∷ others) o)
none_own first name value old own None = refl
none_own first name value old own (Some new) = rw own refl

exchange_own : (first name value name' value' : List ℕ) (held : Option (List ℕ))
    (entries : List Entry)
    → bytes_eq name first ≡ true → bytes_eq name' first ≡ false
    → Exchange (entry first held ∷ entries) name value name' value'
exchange_own first name value name' value' None entries own other =
    rw (own, other) (own_and_other first name value own (with_value entries name' value'))
exchange_own first name value name' value' (Some old) entries own other =
    rw (own, other) (none_own first name value old own (with_value entries name' value'))

exchange_first : (first name value name' value' : List ℕ) (held : Option (List ℕ))
    (entries : List Entry)
    → (is is' : Bool) → bytes_eq name first ≡ is → bytes_eq name' first ≡ is'
    → Exchange entries name value name' value' → Exchange (entry first held ∷ entries) name value
    name' value'
exchange_first first name value name' value' None entries true true own own' rest
    = rw (own, own', own) refl
exchange_first first name value name' value' (Some old) entries true true own own' rest
    = rw (own, own') refl
exchange_first first name value name' value' held entries true false own other rest =
    exchange_own first name value name' value' held entries own other
exchange_first first name value name' value' held entries false true other own rest =
    sym (exchange_own first name' value' name value held entries own other)
exchange_first first name value name' value' held entries false false other other' rest =
    rw (other, other')
    (behind first name' value' held other' (with_value entries name value)
    ∙ (ap (option_map (λ others. entry first held ∷ others)) rest
    ∙ sym (behind first name value held other (with_value entries name' value'))))

pub exchange : (entries : List Entry) (name value name' value' : List ℕ)
    → Exchange entries name value name' value'
exchange [] name value name' value' = refl
exchange (e ∷ entries) name value name' value' =
    exchange_first e.name name value name' value' e.value entries (bytes_eq name e.name)
    (bytes_eq name' e.name) refl refl
    (exchange entries name value name' value')

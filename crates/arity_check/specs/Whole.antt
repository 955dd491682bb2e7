-- Which rules are broken in a whole program, and where, in the order in which the check meets them.
use Rattle.std.specs.Prelude.{ℕ, ◌+◌, ◌==◌, nat_lt, Bool, true, false, not, ◌&&◌, List, [], ◌∷◌, ◌++◌, length, Option, Some, None, slice_get, codes, if◌then◌else◌}
use Rattle.std.specs.List.{list_any, position_from}
use Rattle.std.specs.Str.{bytes_eq}
use Rattle.core_reader.specs.Tree.{Data, Function, Program}
use Rattle.core_reader.specs.Size.{program_size}
use Rattle.arity_check.specs.declared.normal.PrimOp.TheVariants.{Add, Sub, Mul, Quot, Rem, Eq, Lt}
use Rattle.arity_check.specs.declared.globals.NameKind.{NameKind}
use Rattle.arity_check.specs.declared.globals.NameKind.TheVariants.{Nameless, Primitive, Main, Int, Nil, Cons, Plain}
use Rattle.arity_check.specs.declared.refusal.CheckRefusal.{CheckRefusal}
use Rattle.arity_check.specs.declared.refusal.CheckRefusal.TheVariants.{DuplicateConstructor, DuplicateFunction, ReservedName, NoMain, MainHasParameters, NoListConstructors, TooManyFunctions, TooManyConstructors, TooManyParameters, TooManyFields, CoreTooLarge}
use Rattle.arity_check.specs.Scope.{Scope, con_number}
use Rattle.arity_check.specs.Known.{Known, is_reserved, all_entered}
use Rattle.arity_check.specs.Faults.{refusal_if, with_member, binders_faults, expr_faults}

-- ---- what is known of a program's names

abbrev pub kinds : List (List ℕ × NameKind)
kinds =
    (codes "add", Primitive Add) ∷ ((codes "sub", Primitive Sub) ∷ ((codes "mul", Primitive Mul)
    ∷ ((codes "quot", Primitive Quot) ∷ ((codes "rem", Primitive Rem) ∷ ((codes "eq", Primitive Eq)
    ∷ ((codes "lt", Primitive Lt) ∷ ((codes "_", Nameless) ∷ ((codes "main", Main)
    ∷ ((codes "Int", Int) ∷ ((codes "Nil", Nil) ∷ ((codes "Cons", Cons) ∷ [])))))))))))

abbrev pub kind_from : List (List ℕ × NameKind) → List ℕ → NameKind
kind_from [] text = Plain
kind_from (q ∷ qs) text = if bytes_eq text q.0 then q.1 else kind_from qs text

abbrev pub kind_of : List ℕ → NameKind
kind_of text = kind_from kinds text

abbrev pub kind_at : Option (List ℕ) → NameKind
kind_at None = Plain
kind_at (Some text) = kind_of text

-- the first function of this name from number f on, with its number of parameters
abbrev pub function_at : List Function → ℕ → ℕ → Option (ℕ × ℕ)
function_at [] f x = None
function_at (g ∷ gs) f x =
    if g.name == x then Some (f, length g.params) else function_at gs (f + 1) x

-- the number of fields of the first constructor of this name
abbrev pub fields_at : List Data → ℕ → Option ℕ
fields_at [] c = None
fields_at (d ∷ ds) c = if d.name == c then Some d.fields else fields_at ds c

-- the first constructor of this name from number i on, with its number of fields
abbrev pub constructor_at : List Data → ℕ → ℕ → Option (ℕ × ℕ)
constructor_at [] i c = None
constructor_at (d ∷ ds) i c =
    if d.name == c then Some (i, d.fields) else constructor_at ds (i + 1) c

abbrev pub known_of : Program → Known
known_of p = record {
  kind = λ x. kind_at (slice_get p.names x);
  function = function_at p.functions 0;
  fields = fields_at p.constructors;
  number = con_number p;
}

-- ---- the faults

abbrev pub main_kind : NameKind → Bool
main_kind Main = true
main_kind _ = false

abbrev pub int_kind : NameKind → Bool
int_kind Int = true
int_kind _ = false

abbrev pub nil_kind : NameKind → Bool
nil_kind Nil = true
nil_kind _ = false

abbrev pub cons_kind : NameKind → Bool
cons_kind Cons = true
cons_kind _ = false

-- a constructor that is declared has this number of fields
abbrev pub has_fields : Option ℕ → ℕ → Bool
has_fields None n = false
has_fields (Some m) n = m == n

module _ (k : Known) where
  -- of constructor number i, where these names were declared before it
  abbrev pub con_faults : ℕ → (ℕ → Bool) → Data → List CheckRefusal
  con_faults i seen d =
      refusal_if (i == 1024) (TooManyConstructors d.at)
      ++ (refusal_if (seen d.name) (DuplicateConstructor d.at)
      ++ (refusal_if (nat_lt 12 d.fields) (TooManyFields d.at)
      ++ refusal_if (int_kind (k.kind d.name)) (ReservedName d.at)))

  abbrev pub cons_faults : ℕ → (ℕ → Bool) → List Data → List CheckRefusal
  cons_faults i seen [] = []
  cons_faults i seen (d ∷ ds) =
      con_faults i seen d ++ cons_faults (i + 1) (with_member d.name seen) ds

  abbrev pub header_faults : ℕ → (ℕ → Bool) → Function → List CheckRefusal
  header_faults i seen f =
      refusal_if (i == 4096) (TooManyFunctions f.at)
      ++ (refusal_if (seen f.name) (DuplicateFunction f.at)
      ++ (refusal_if (nat_lt 12 (length f.params)) (TooManyParameters f.at)
      ++ (refusal_if (is_reserved k f.name) (ReservedName f.at)
      ++ refusal_if (main_kind (k.kind f.name) && nat_lt 1 (length f.params))
      (MainHasParameters f.at))))

  abbrev pub body_faults : Scope → Function → List CheckRefusal
  body_faults s f =
      binders_faults k (λ x. false) f.params ++ expr_faults k (all_entered k f.params s) f.body

  abbrev pub functions_faults : Scope → ℕ → (ℕ → Bool) → List Function → List CheckRefusal
  functions_faults s i seen [] = []
  functions_faults s i seen (f ∷ fs) =
      (header_faults i seen f ++ body_faults s f)
      ++ functions_faults s (i + 1) (with_member f.name seen) fs

  -- the number of the first function named `main`
  abbrev pub main_at : List Function → Option ℕ
  main_at fs = position_from (λ (f : Function). main_kind (k.kind f.name)) 0 fs

  abbrev pub has_main : List Function → Bool
  has_main fs = list_any (λ (f : Function). main_kind (k.kind f.name)) fs

  abbrev pub has_nil : List Data → Bool
  has_nil ds =
      list_any (λ (d : Data). nil_kind (k.kind d.name) && has_fields (k.fields d.name) 0) ds

  abbrev pub has_cons : List Data → Bool
  has_cons ds =
      list_any (λ (d : Data). cons_kind (k.kind d.name) && has_fields (k.fields d.name) 2) ds

  abbrev pub lacks_faults : List Data → List Function → List CheckRefusal
  lacks_faults ds fs =
      refusal_if (not (has_main fs)) NoMain
      ++ refusal_if (not (has_nil ds && has_cons ds)) NoListConstructors

abbrev pub program_faults : Program → List CheckRefusal
program_faults p =
    cons_faults (known_of p) 0 (λ x. false) p.constructors
    ++ (functions_faults (known_of p) [] 0 (λ x. false) p.functions
    ++ (lacks_faults (known_of p) p.constructors p.functions
    ++ refusal_if (nat_lt 16384 (program_size p)) (CoreTooLarge (program_size p))))

-- The reading of modules owes what a reading of a text owes.
use Rattle.std.proofs.Common.{◌≡◌, ℕ, Bool, false, List, [], ◌∷◌, ◌++◌, Result, Ok, Err, refl, sym, ap, subst, ◌∙◌, append_assoc, inl, inr, map}
use Rattle.std.specs.Prelude.{ℤ, pos, codes}
use Rattle.std.specs.List.{flat_map}
use Rattle.std.proofs.lemmas.List.{append-nil}
use Rattle.core_reader.specs.declared.dialect.Dialect.TheVariants.{Modules}
use Rattle.core_reader.specs.declared.syntax.Binder.{Binder}
use Rattle.core_reader.specs.declared.token.Token.{Token}
use Rattle.core_reader.specs.declared.token.Token.TheVariants as word
use Rattle.core_reader.specs.declared.token.Further.TheVariants as further
use Rattle.core_reader.specs.declared.token.Lexeme.{Lexeme}
use Rattle.core_reader.specs.declared.refusal.ReadRefusal.{ReadRefusal}
use Rattle.core_reader.specs.declared.refusal.ReadRefusal.TheVariants as refusal
use Rattle.core_reader.specs.Grammar.{NestingLimit, unlimited_nesting, at_most_200, lexeme, Decl, Declares, Defines, SpellsDecls, constructors_of, functions_of}
use Rattle.core_reader.specs.TokensOf.{Piece}
use Rattle.core_reader.specs.WordsOf.{said}
use Rattle.core_reader.specs.NamesOf.{names_of}
use Rattle.core_reader.specs.ReadingOf.{Step, go, done, stop, follow, run_of}
use Rattle.core_reader.specs.Machine as expression
use Rattle.core_reader.specs.Declaring as core
use Rattle.core_reader.proofs.ReadingOf.{IsLast, ended, Good, Verdict, refused_plain, by_plain, Accepts, Laws, ReadsLanguage}
use Rattle.core_reader.proofs.CoreReading.{core_laws_in}
use Rattle.core_link.specs.Module.{ModuleHeader, Import, Module, module_header_of, IsWord, SpellsWords, SpellsLists, SpellsImports, SpellsHead, SpellsModule, IsSpelled}
use Rattle.core_link.specs.Heading as heading
use Rattle.core_link.specs.Heading.{binder, named, exporting, importing, import_from, State, Start, ModuleName, NameEnd, Exports, ExportWords, Imports, ImportName, ImportWords, ModuleParts, behind_head, step, modules}

-- ---- what was read before a state

abbrev pub Consumed : NestingLimit → State → List Lexeme → Type 0
Consumed l Start ts = ts ≡ []
Consumed l ModuleName ts = (p : ℕ) × (ts ≡ lexeme p (word.Further further.Module) ∷ [])
Consumed l (NameEnd b) ts = (p : ℕ) ×
    (ts ≡ lexeme p (word.Further further.Module) ∷ lexeme b.at (word.Con b.name) ∷ [])
Consumed l (Exports h) ts = (h.imports ≡ []) × SpellsHead h ts
Consumed l (ExportWords h) ts =
    (k : ModuleHeader) × (bs : List Binder) × (us vs : List Lexeme) × (p : ℕ) × (k.imports ≡ [])
    × SpellsHead k us × SpellsWords bs vs × (h ≡ exporting k bs)
    × (ts ≡ us ++ (lexeme p (word.Further further.Export) ∷ vs))
Consumed l (Imports h) ts = SpellsHead h ts
Consumed l (ImportName h) ts = (us : List Lexeme) × (p : ℕ) × SpellsHead h us
    × (ts ≡ us ++ lexeme p (word.Further further.Import) ∷ [])
Consumed l (ImportWords h b bs) ts =
    (us vs : List Lexeme) × (p : ℕ) × SpellsHead h us × SpellsWords bs vs
    × (ts ≡ us ++ (lexeme p (word.Further further.Import) ∷ lexeme b.at (word.Con b.name) ∷ vs))
Consumed l (heading.Declares h s) ts = (us vs : List Lexeme) × SpellsHead h us
    × (core_laws_in Modules).Consumed l s vs × (ts ≡ us ++ vs)

more_words : (bs : List Binder) (b : Binder) (ts : List Lexeme) (t : Lexeme) → SpellsWords bs ts
    → IsWord b t → SpellsWords (bs ++ b ∷ []) (ts ++ t ∷ [])
more_words [] b ts t h w = (t, [], w, refl, ap (λ v. v ++ t ∷ []) h)
more_words (c ∷ bs) b ts t h w =
    (h.0, h.1 ++ t ∷ [], h.2, more_words bs b h.1 t h.3 w, ap (λ v. v ++ t ∷ []) h.4)

flat_last : (lists : List (List Binder)) (bs : List Binder)
    → flat_map (λ l. l) (lists ++ bs ∷ []) ≡ flat_map (λ l. l) lists ++ bs
flat_last [] bs = append-nil bs
flat_last (l ∷ lists) bs = ap (λ w. l ++ w) (flat_last lists bs) ∙ sym
    (append_assoc l (flat_map (λ l. l) lists) bs)

more_lists : (lists : List (List Binder)) (bs : List Binder) (ts us : List Lexeme) (p q : ℕ)
    → SpellsLists lists ts → SpellsWords bs us
    → SpellsLists (lists ++ bs ∷ [])
    (ts ++ (lexeme p (word.Further further.Export) ∷ (us ++ lexeme q word.Semicolon ∷ [])))
more_lists [] bs ts us p q h w = (
  p,
  q,
  us,
  [],
  w,
  refl,
  ap
      (λ v. v ++ (lexeme p (word.Further further.Export) ∷ (us ++ lexeme q word.Semicolon ∷ []))) h,
)
more_lists (l ∷ lists) bs ts us p q h w =
    let more = lexeme p (word.Further further.Export) ∷ (us ++ lexeme q word.Semicolon ∷ []) in
    let e : ts ++ more ≡ lexeme h.0 (word.Further further.Export) ∷
    (h.2 ++ (lexeme h.1 word.Semicolon ∷ (h.3 ++ more))) = simp (h.6, append_assoc) in
    (h.0, h.1, h.2, h.3 ++ more, h.4, more_lists lists bs h.3 us p q h.5 w, e)

more_imports : (imports : List Import) (i : Import) (ts us : List Lexeme) (p q : ℕ)
    → SpellsImports imports ts → SpellsWords i.names us
    → SpellsImports (imports ++ i ∷ [])
    (ts ++ (lexeme p (word.Further further.Import) ∷ lexeme i.from.at (word.Con i.from.name) ∷
    (us ++ lexeme q word.Semicolon ∷ [])))
more_imports [] i ts us p q h w = (
  p,
  q,
  us,
  [],
  w,
  refl,
  ap
      (λ v. v ++
      (lexeme p (word.Further further.Import) ∷ lexeme i.from.at (word.Con i.from.name) ∷
      (us ++ lexeme q word.Semicolon ∷ []))) h,
)
more_imports (j ∷ imports) i ts us p q h w =
    let more = lexeme p (word.Further further.Import) ∷ lexeme i.from.at (word.Con i.from.name) ∷
    (us ++ lexeme q word.Semicolon ∷ []) in
    let e : ts ++ more ≡ lexeme h.0 (word.Further further.Import) ∷ lexeme j.from.at
    (word.Con j.from.name) ∷ (h.2 ++ (lexeme h.1 word.Semicolon ∷ (h.3 ++ more)))
    = simp (h.6, append_assoc) in
    (h.0, h.1, h.2, h.3 ++ more, h.4, more_imports imports i h.3 us p q h.5 w, e)

-- the header with one more list of exports
with_exports : (h : ModuleHeader) (bs : List Binder) (us vs : List Lexeme) (p q : ℕ)
    → h.imports ≡ [] → SpellsHead h us → SpellsWords bs vs
    → SpellsHead (exporting h bs)
    (us ++ (lexeme p (word.Further further.Export) ∷ (vs ++ lexeme q word.Semicolon ∷ [])))
with_exports h bs us vs p q none s w =
    let more = lexeme p (word.Further further.Export) ∷ (vs ++ lexeme q word.Semicolon ∷ []) in
    let lists = s.4.0 in
    let empty : s.3 ≡ [] = subst (λ is. SpellsImports is s.3) none s.5 in
    let e : us ++ more ≡ lexeme s.0 (word.Further further.Module) ∷ lexeme h.name.at
    (word.Con h.name.name) ∷ lexeme s.1 word.Semicolon ∷ ((s.2 ++ more) ++ s.3)
    = simp (s.6, empty, append-nil) in (
      s.0,
      s.1,
      s.2 ++ more,
      s.3,
      (
        lists ++ bs ∷ [],
        flat_last lists bs ∙ ap (λ w. w ++ bs) s.4.1,
        more_lists lists bs s.2 vs p q s.4.2 w,
      ),
      s.5,
      e,
    )

-- the header with one more import
with_import : (h : ModuleHeader) (i : Import) (us vs : List Lexeme) (p q : ℕ) → SpellsHead h us
    → SpellsWords i.names vs
    → SpellsHead (importing h i)
    (us ++ (lexeme p (word.Further further.Import) ∷ lexeme i.from.at (word.Con i.from.name) ∷
    (vs ++ lexeme q word.Semicolon ∷ [])))
with_import h i us vs p q s w =
    let more = lexeme p (word.Further further.Import) ∷ lexeme i.from.at (word.Con i.from.name) ∷
    (vs ++ lexeme q word.Semicolon ∷ []) in
    let e : us ++ more ≡ lexeme s.0 (word.Further further.Module) ∷ lexeme h.name.at
    (word.Con h.name.name) ∷ lexeme s.1 word.Semicolon ∷ (s.2 ++ (s.3 ++ more))
    = simp (s.6, append_assoc) in
    (s.0, s.1, s.2, s.3 ++ more, s.4, more_imports h.imports i s.3 vs p q s.5 w, e)

-- ---- each state knows what was read

good_behind : (l : NestingLimit) (h : ModuleHeader) (st : Step core.State (List Decl))
    (us vs ws : List Lexeme) → SpellsHead h us → ws ≡ us ++ vs
    → Good (core_laws_in Modules).Consumed SpellsDecls l st vs
    → Good Consumed SpellsModule l (behind_head h st) ws
good_behind l h (go s) us vs ws head e g = (us, vs, head, g, e)
good_behind l h (done ds) us vs ws head e g = (
  us ++ g.0,
  g.1,
  (us, g.0, head, g.2, refl),
  e ∙ ap (λ w. us ++ w) g.3 ∙ sym
      (append_assoc us g.0 (lexeme g.1 word.End ∷ [])),
)
good_behind l h (stop e) us vs ws head f g = tt

one_more : (h k : ModuleHeader) (bs : List Binder) (b : Binder) → h ≡ exporting k bs
    → exporting h (b ∷ []) ≡ exporting k (bs ++ b ∷ [])
one_more h k bs b e = ap (λ w. exporting w (b ∷ [])) e ∙ ap
    (λ w. record { name = k.name; exports = w; imports = k.imports })
    (append_assoc k.exports bs (b ∷ []))

more_export : (l : NestingLimit) (h : ModuleHeader) (ts : List Lexeme) (b : Binder) (t : Lexeme)
    → IsWord b t → Consumed l (ExportWords h) ts → Consumed l (ExportWords (exporting h (b ∷ [])))
    (ts ++ t ∷ [])
more_export l h ts b t w c =
    let us = c.2 in
    let vs = c.3 in
    let e : ts ++ t ∷ [] ≡ us ++ (lexeme c.4 (word.Further further.Export) ∷ (vs ++ t ∷ []))
    = simp (c.9, append_assoc) in (
      c.0,
      c.1 ++ b ∷ [],
      us,
      vs ++ t ∷ [],
      c.4,
      c.5,
      c.6,
      more_words c.1 b vs t c.7 w,
      one_more h c.0 c.1 b c.8,
      e,
    )

more_import : (l : NestingLimit) (h : ModuleHeader) (a : Binder) (bs : List Binder)
    (ts : List Lexeme) (b : Binder) (t : Lexeme) → IsWord b t → Consumed l (ImportWords h a bs) ts
    → Consumed l (ImportWords h a (bs ++ b ∷ [])) (ts ++ t ∷ [])
more_import l h a bs ts b t w c =
    let us = c.0 in
    let vs = c.1 in
    let e : ts ++ t ∷ [] ≡ us ++
    (lexeme c.2 (word.Further further.Import) ∷ lexeme a.at (word.Con a.name) ∷ (vs ++ t ∷ []))
    = simp (c.5, append_assoc) in
    (us, vs ++ t ∷ [], c.2, c.3, more_words bs b vs t c.4 w, e)

sound : (l : NestingLimit) (s : State) (ts : List Lexeme) (at : ℕ) (token : Token) → Consumed l s ts
    → Good Consumed SpellsModule l (step l s at token) (ts ++ lexeme at token ∷ [])
sound l Start ts at (word.Further further.Module) c
    = (at, ap (λ w. w ++ lexeme at (word.Further further.Module) ∷ []) c)
sound l ModuleName ts at (word.Con n) c = (c.0, ap (λ w. w ++ lexeme at (word.Con n) ∷ []) c.1)
sound l (NameEnd b) ts at word.Semicolon c = (
  refl,
  (
    c.0,
    at,
    [],
    [],
    ([], refl, refl),
    refl,
    ap (λ w. w ++ lexeme at word.Semicolon ∷ []) c.1,
  ),
)
sound l (Exports h) ts at (word.Further further.Export) c
    = (
      h,
      [],
      ts,
      [],
      at,
      c.0,
      c.1,
      refl,
      ap
          (λ w. record { name = h.name; exports = w; imports = h.imports }) (sym (append-nil h.exports)),
      refl,
    )
sound l (Exports h) ts at (word.Further further.Import) c = (ts, at, c.1, refl)
sound l (Exports h) ts at token c = good_behind l h (core.step l (core.top []) at token) ts
    (lexeme at token ∷ []) (ts ++ lexeme at token ∷ []) c.1 refl
    ((core_laws_in Modules).sound l (core.top []) [] at token ((core_laws_in Modules).begins l))
sound l (ExportWords h) ts at (word.Name n) c = more_export l h ts (binder n at)
    (lexeme at (word.Name n)) (inl refl) c
sound l (ExportWords h) ts at (word.Con n) c = more_export l h ts (binder n at)
    (lexeme at (word.Con n)) (inr refl) c
sound l (ExportWords h) ts at word.Semicolon c =
    let us = c.2 in
    let vs = c.3 in
    let e : ts ++ lexeme at word.Semicolon ∷ [] ≡ us
    ++ (lexeme c.4 (word.Further further.Export) ∷ (vs ++ lexeme at word.Semicolon ∷ []))
    = simp (c.9, append_assoc) in (
      ap (λ (w : ModuleHeader). w.imports) c.8 ∙ c.5,
      subst (λ w. SpellsHead w (ts ++ lexeme at word.Semicolon ∷ [])) (sym c.8)
          (subst (SpellsHead (exporting c.0 c.1)) (sym e)
          (with_exports c.0 c.1 us vs c.4 at c.5 c.6 c.7)),
    )
sound l (Imports h) ts at (word.Further further.Import) c = (ts, at, c, refl)
sound l (Imports h) ts at token c = good_behind l h (core.step l (core.top []) at token) ts
    (lexeme at token ∷ []) (ts ++ lexeme at token ∷ []) c refl
    ((core_laws_in Modules).sound l (core.top []) [] at token ((core_laws_in Modules).begins l))
sound l (ImportName h) ts at (word.Con n) c =
    let e : ts ++ lexeme at (word.Con n) ∷ [] ≡ c.0
    ++ (lexeme c.1 (word.Further further.Import) ∷ lexeme at (word.Con n) ∷ [])
    = simp (c.3, append_assoc) in
    (c.0, [], c.1, c.2, refl, e)
sound l (ImportWords h b bs) ts at (word.Name n) c = more_import l h b bs ts (binder n at)
    (lexeme at (word.Name n)) (inl refl) c
sound l (ImportWords h b bs) ts at (word.Con n) c = more_import l h b bs ts (binder n at)
    (lexeme at (word.Con n)) (inr refl) c
sound l (ImportWords h b bs) ts at word.Semicolon c =
    let us = c.0 in
    let vs = c.1 in
    let e : ts ++ lexeme at word.Semicolon ∷ [] ≡ us
    ++ (lexeme c.2 (word.Further further.Import) ∷ lexeme b.at (word.Con b.name) ∷
    (vs ++ lexeme at word.Semicolon ∷ [])) = simp (c.5, append_assoc) in
    subst (SpellsHead (importing h (import_from b bs))) (sym e)
    (with_import h (import_from b bs) us vs c.2 at c.3 c.4)
sound l (heading.Declares h s) ts at token c =
    let e : ts ++ lexeme at token ∷ [] ≡ c.0 ++ (c.1 ++ lexeme at token ∷ [])
    = simp (c.4, append_assoc) in
    good_behind l h (core.step l s at token) c.0 (c.1 ++ lexeme at token ∷ [])
    (ts ++ lexeme at token ∷ []) c.2 e ((core_laws_in Modules).sound l s c.1 at token c.3)
sound l s ts at token c = tt

-- ---- whatever was read can be completed

abbrev piece : List ℕ → Piece
piece w = record { bytes = w; at = 0 }

abbrev semicolon : Piece
semicolon = piece (codes ";")

ending : State → List Piece
ending Start = piece (codes "module") ∷ piece (codes "A") ∷ semicolon ∷ []
ending ModuleName = piece (codes "A") ∷ semicolon ∷ []
ending (NameEnd b) = semicolon ∷ []
ending (Exports h) = []
ending (ExportWords h) = semicolon ∷ []
ending (Imports h) = []
ending (ImportName h) = piece (codes "A") ∷ semicolon ∷ []
ending (ImportWords h b bs) = semicolon ∷ []
ending (heading.Declares h s) = (core_laws_in Modules).ending s

abbrev pub with_head : ModuleHeader → Result (List Decl) ReadRefusal
    → Result ModuleParts ReadRefusal
with_head h (Ok ds) = Ok (h, ds)
with_head h (Err e) = Err e

follow_behind : (l : NestingLimit) (h : ModuleHeader) (st : Step core.State (List Decl))
    (ts : List Lexeme) →
    ((s : core.State) → run_of step l (heading.Declares h s) ts ≡ with_head h
    (run_of core.step l s ts))
    → follow (behind_head h st) (λ s. run_of step l s ts) ≡ with_head h
    (follow st (λ s. run_of core.step l s ts))
follow_behind l h (go s) ts ih = ih s
follow_behind l h (done ds) ts ih = refl
follow_behind l h (stop e) ts ih = refl

-- behind the header the reading is that of Core
pub behind_runs : (l : NestingLimit) (h : ModuleHeader) (s : core.State) (ts : List Lexeme)
    → run_of step l (heading.Declares h s) ts ≡ with_head h (run_of core.step l s ts)
unfolding run_of
behind_runs l h s [] = refl
behind_runs l h s (t ∷ ts) = follow_behind l h (core.step l s t.at t.token) ts
    (λ s. behind_runs l h s ts)

abbrev Reaches : NestingLimit → State → List Lexeme → Type 0
Reaches l s ts = (a : ModuleParts) × (run_of step l s ts ≡ Ok a)

ends : (names : List (List ℕ)) (l : NestingLimit) (s : State)
    → Reaches l s (ended Modules names (ending s))
unfolding run_of ending
ends names l Start = (_, refl)
ends names l ModuleName = (_, refl)
ends names l (NameEnd b) = (_, refl)
ends names l (Exports h) = (_, refl)
ends names l (ExportWords h) = (_, refl)
ends names l (Imports h) = (_, refl)
ends names l (ImportName h) = (_, refl)
ends names l (ImportWords h b bs) = (_, refl)
ends names l (heading.Declares h s) =
    let r = (core_laws_in Modules).ends names l s in (
      (h, r.0),
      behind_runs l h s (ended Modules names ((core_laws_in Modules).ending s)) ∙ ap
          (with_head h) r.1,
    )

-- ---- what spells a module is read as it

abbrev NotHead : Token → Type 0
NotHead (word.Further further.Export) = ⊥
NotHead (word.Further further.Import) = ⊥
NotHead token = Unit {0}

declares_now : (l : NestingLimit) (h : ModuleHeader) (at : ℕ) (token : Token) → NotHead token
    → (step l (Exports h) at token ≡ step l (heading.Declares h (core.top [])) at token)
    × (step l (Imports h) at token ≡ step l (heading.Declares h (core.top [])) at token)
declares_now l h at (word.Further further.Export) n = absurd n
declares_now l h at (word.Further further.Import) n = absurd n
declares_now l h at token n = (refl, refl)

pub record BeginsDeclaring (ts : List Lexeme) : Type 0 where
  first : Lexeme
  rest : List Lexeme
  not_head : NotHead first.token
  is : ts ≡ first ∷ rest

pub begins_declaring : (l : NestingLimit) (ds : List Decl) (ts : List Lexeme) (end : ℕ)
    (rest : List Lexeme) → SpellsDecls l ds ts → BeginsDeclaring (ts ++ lexeme end word.End ∷ rest)
begins_declaring l [] ts end rest h = record {
  first = lexeme end word.End;
  rest = rest;
  not_head = tt;
  is
      = ap (λ w. w ++ lexeme end word.End ∷ rest) h;
}
begins_declaring l (Declares d ∷ ds) ts end rest h =
    let s = h.2 in
    record {
      first = lexeme s.0 word.Data;
      rest = _;
      not_head = tt;
      is
          = ap (λ w. w ++ lexeme end word.End ∷ rest) (h.4 ∙ ap (λ w. w ++ h.1) s.3);
    }
begins_declaring l (Defines f ∷ ds) ts end rest h =
    let s = h.2 in
    record {
      first = _;
      rest = _;
      not_head = tt;
      is
          = ap (λ w. w ++ lexeme end word.End ∷ rest) (h.4 ∙ ap (λ w. w ++ h.1) s.4);
    }

declares_run : (l : NestingLimit) (h : ModuleHeader) (ts : List Lexeme) → BeginsDeclaring ts
    → (run_of step l (Exports h) ts ≡ run_of step l (heading.Declares h (core.top [])) ts)
    × (run_of step l (Imports h) ts ≡ run_of step l (heading.Declares h (core.top [])) ts)
unfolding run_of
declares_run l h ts b =
    let t = b.first in
    let n = declares_now l h t.at t.token b.not_head in
    let from : Step State ModuleParts → Result ModuleParts ReadRefusal
    = λ st. follow st (λ s. run_of step l s b.rest) in (
      ap (run_of step l (Exports h)) b.is ∙ ap from n.0 ∙ sym
          (ap (run_of step l (heading.Declares h (core.top []))) b.is),
      ap (run_of step l (Imports h)) b.is ∙ ap from n.1 ∙ sym
          (ap (run_of step l (heading.Declares h (core.top []))) b.is),
    )

export_step : (l : NestingLimit) (h : ModuleHeader) (b : Binder) (t : Lexeme) → IsWord b t
    → step l (ExportWords h) t.at t.token ≡ go (ExportWords (exporting h (b ∷ [])))
export_step l h b t (inl e) = ap (λ (t : Lexeme). step l (ExportWords h) t.at t.token) e
export_step l h b t (inr e) = ap (λ (t : Lexeme). step l (ExportWords h) t.at t.token) e

import_step : (l : NestingLimit) (h : ModuleHeader) (a : Binder) (bs : List Binder) (b : Binder)
    (t : Lexeme) → IsWord b t → step l (ImportWords h a bs) t.at t.token ≡ go
    (ImportWords h a (bs ++ b ∷ []))
import_step l h a bs b t (inl e) = ap (λ (t : Lexeme). step l (ImportWords h a bs) t.at t.token) e
import_step l h a bs b t (inr e) = ap (λ (t : Lexeme). step l (ImportWords h a bs) t.at t.token) e

exports_then : (h : ModuleHeader) (bs cs : List Binder)
    → exporting (exporting h bs) cs ≡ exporting h (bs ++ cs)
exports_then h bs cs = ap (λ w. record { name = h.name; exports = w; imports = h.imports })
    (append_assoc h.exports bs cs)

exports_none : (h : ModuleHeader) → h ≡ exporting h []
exports_none h = ap (λ w. record { name = h.name; exports = w; imports = h.imports })
    (sym (append-nil h.exports))

reads_exported : (l : NestingLimit) (h : ModuleHeader) (bs : List Binder) (ts rest : List Lexeme)
    → SpellsWords bs ts → run_of step l (ExportWords h) (ts ++ rest) ≡ run_of step l
    (ExportWords (exporting h bs)) rest
unfolding run_of
reads_exported l h [] ts rest s = ap (λ w. run_of step l (ExportWords h) (w ++ rest)) s ∙ ap
    (λ w. run_of step l (ExportWords w) rest) (exports_none h)
reads_exported l h (b ∷ bs) ts rest s =
    ap (λ w. run_of step l (ExportWords h) (w ++ rest)) s.4
    ∙ ap (λ st. follow st (λ s'. run_of step l s' (s.1 ++ rest))) (export_step l h b s.0 s.2)
    ∙ reads_exported l (exporting h (b ∷ [])) bs s.1 rest s.3
    ∙ ap (λ w. run_of step l (ExportWords w) rest) (exports_then h (b ∷ []) bs)

reads_imported : (l : NestingLimit) (h : ModuleHeader) (a : Binder) (cs bs : List Binder)
    (ts rest : List Lexeme) → SpellsWords bs ts → run_of step l (ImportWords h a cs) (ts ++ rest) ≡
    run_of step l (ImportWords h a (cs ++ bs)) rest
unfolding run_of
reads_imported l h a cs [] ts rest s = ap (λ w. run_of step l (ImportWords h a cs) (w ++ rest)) s ∙
    ap (λ w. run_of step l (ImportWords h a w) rest) (sym (append-nil cs))
reads_imported l h a cs (b ∷ bs) ts rest s =
    ap (λ w. run_of step l (ImportWords h a cs) (w ++ rest)) s.4
    ∙ ap (λ st. follow st (λ s'. run_of step l s' (s.1 ++ rest))) (import_step l h a cs b s.0 s.2)
    ∙ reads_imported l h a (cs ++ b ∷ []) bs s.1 rest s.3
    ∙ ap (λ w. run_of step l (ImportWords h a w) rest) (append_assoc cs (b ∷ []) bs)

reads_lists : (l : NestingLimit) (h : ModuleHeader) (lists : List (List Binder))
    (ts rest : List Lexeme) → SpellsLists lists ts → run_of step l (Exports h) (ts ++ rest) ≡ run_of
    step l (Exports (exporting h (flat_map (λ l. l) lists))) rest
unfolding run_of
reads_lists l h [] ts rest s = ap (λ w. run_of step l (Exports h) (w ++ rest)) s ∙ ap
    (λ w. run_of step l (Exports w) rest) (exports_none h)
reads_lists l h (bs ∷ lists) ts rest s =
    let e : ts ++ rest ≡ lexeme s.0 (word.Further further.Export) ∷
    (s.2 ++ (lexeme s.1 word.Semicolon ∷ (s.3 ++ rest))) = simp (s.6, append_assoc) in
    ap (run_of step l (Exports h)) e
    ∙ reads_exported l h bs s.2 (lexeme s.1 word.Semicolon ∷ (s.3 ++ rest)) s.4
    ∙ reads_lists l (exporting h bs) lists s.3 rest s.5
    ∙ ap (λ w. run_of step l (Exports w) rest) (exports_then h bs (flat_map (λ l. l) lists))

abbrev importing_all : ModuleHeader → List Import → ModuleHeader
importing_all h imports = record
    { name = h.name; exports = h.exports; imports = h.imports ++ imports }

import_runs : (l : NestingLimit) (h : ModuleHeader) (i : Import) (imports : List Import)
    (ts rest : List Lexeme) (s : SpellsImports (i ∷ imports) ts)
    → run_of step l (ImportName h)
    (lexeme i.from.at (word.Con i.from.name) ∷ (s.2 ++ (lexeme s.1 word.Semicolon ∷ (s.3 ++ rest))))
    ≡ run_of step l (Imports (importing h i)) (s.3 ++ rest)
unfolding run_of
import_runs l h i imports ts rest s = reads_imported l h i.from [] i.names s.2
    (lexeme s.1 word.Semicolon ∷ (s.3 ++ rest)) s.4

regrouped : (i : Import) (imports : List Import) (ts rest : List Lexeme)
    (s : SpellsImports (i ∷ imports) ts)
    → ts ++ rest ≡ lexeme s.0 (word.Further further.Import) ∷ lexeme i.from.at
    (word.Con i.from.name) ∷ (s.2 ++ (lexeme s.1 word.Semicolon ∷ (s.3 ++ rest)))
regrouped i imports ts rest s = simp (s.6, append_assoc)

all_imports : (h : ModuleHeader) (i : Import) (imports : List Import)
    → importing_all (importing h i) imports ≡ importing_all h (i ∷ imports)
all_imports h i imports = ap (λ w. record { name = h.name; exports = h.exports; imports = w })
    (append_assoc h.imports (i ∷ []) imports)

no_imports : (h : ModuleHeader) → h ≡ importing_all h []
no_imports h = ap (λ w. record { name = h.name; exports = h.exports; imports = w })
    (sym (append-nil h.imports))

reads_more_imports : (l : NestingLimit) (h : ModuleHeader) (imports : List Import)
    (ts rest : List Lexeme) → SpellsImports imports ts → BeginsDeclaring rest
    → run_of step l (Imports h) (ts ++ rest) ≡ run_of step l
    (heading.Declares (importing_all h imports) (core.top [])) rest
unfolding run_of
reads_more_imports l h [] ts rest s b = ap (λ w. run_of step l (Imports h) (w ++ rest)) s ∙
    (declares_run l h rest b).1 ∙ ap (λ w. run_of step l (heading.Declares w (core.top [])) rest)
    (no_imports h)
reads_more_imports l h (i ∷ imports) ts rest s b =
    ap (run_of step l (Imports h)) (regrouped i imports ts rest s)
    ∙ import_runs l h i imports ts rest s
    ∙ reads_more_imports l (importing h i) imports s.3 rest s.5 b
    ∙ ap (λ w. run_of step l (heading.Declares w (core.top [])) rest) (all_imports h i imports)

reads_imports : (l : NestingLimit) (h : ModuleHeader) (imports : List Import)
    (ts rest : List Lexeme) → SpellsImports imports ts → BeginsDeclaring rest
    → run_of step l (Exports h) (ts ++ rest) ≡ run_of step l
    (heading.Declares (importing_all h imports) (core.top [])) rest
unfolding run_of
reads_imports l h [] ts rest s b = ap (λ w. run_of step l (Exports h) (w ++ rest)) s ∙
    (declares_run l h rest b).0 ∙ ap (λ w. run_of step l (heading.Declares w (core.top [])) rest)
    (no_imports h)
reads_imports l h (i ∷ imports) ts rest s b =
    ap (run_of step l (Exports h)) (regrouped i imports ts rest s)
    ∙ import_runs l h i imports ts rest s
    ∙ reads_more_imports l (importing h i) imports s.3 rest s.5 b
    ∙ ap (λ w. run_of step l (heading.Declares w (core.top [])) rest) (all_imports h i imports)

-- behind what spells a header, tokens of declarations are read as they are in Core
pub header_runs : (l : NestingLimit) (h : ModuleHeader) (us ws : List Lexeme) → SpellsHead h us
    → BeginsDeclaring ws → run_of step l Start (us ++ ws) ≡ with_head h
    (run_of core.step l (core.top []) ws)
unfolding run_of
header_runs l h us ws s b =
    let e : us ++ ws ≡ lexeme s.0 (word.Further further.Module) ∷ lexeme h.name.at
    (word.Con h.name.name) ∷ lexeme s.1 word.Semicolon ∷ (s.2 ++ (s.3 ++ ws))
    = simp (s.6, append_assoc) in
    let first = named h.name in
    let lists = s.4 in
    ap (run_of step l Start) e
    ∙ reads_lists l first lists.0 s.2 (s.3 ++ ws) lists.2
    ∙ ap (λ w. run_of step l (Exports (exporting first w)) (s.3 ++ ws)) lists.1
    ∙ reads_imports l (exporting first h.exports) h.imports s.3 ws s.5 b
    ∙ behind_runs l h (core.top []) ws

whole : (l : NestingLimit) (a : ModuleParts) (ts : List Lexeme) (end : ℕ) (rest : List Lexeme)
    → SpellsModule l a ts → run_of step l Start (ts ++ lexeme end word.End ∷ rest) ≡ Ok a
whole l a ts end rest s =
    let h = a.0 in
    let after = s.1 ++ lexeme end word.End ∷ rest in
    let e : ts ++ lexeme end word.End ∷ rest ≡ s.0 ++ after = simp (s.4, append_assoc) in
    ap (run_of step l Start) e
    ∙ header_runs l h s.0 after s.2 (begins_declaring l a.1 s.1 end rest s.3)
    ∙ ap (with_head h) ((core_laws_in Modules).whole l a.1 s.1 end rest s.3)

-- ---- other limits, numbers out of the range, and the end

verdict_behind : (h : ModuleHeader) (q : State) (s : core.State) (at : ℕ) (token : Token)
    → step unlimited_nesting q at token ≡ behind_head h (core.step unlimited_nesting s at token)
    → (st : Step core.State (List Decl)) → Verdict core.step s at token st
    → Verdict step q at token (behind_head h st)
verdict_behind h q s at token e (go next) v = e ∙ ap (behind_head h) v
verdict_behind h q s at token e (done ds) v = e ∙ ap (behind_head h) v
verdict_behind h q s at token e (stop (refusal.BadByte p)) v = v
verdict_behind h q s at token e (stop (refusal.Syntax p)) v = (v.0, e ∙ ap (behind_head h) v.1, v.2)
verdict_behind h q s at token e (stop (refusal.NumberRange p)) v
    = (v.0, v.1, v.2, e ∙ ap (behind_head h) v.3)
verdict_behind h q s at token e (stop (refusal.TooDeep p)) v
    = (v.0, heading.Declares h v.1, e ∙ ap (behind_head h) v.2, v.3)
verdict_behind h q s at token e (stop refusal.TextTooLong) v = v
verdict_behind h q s at token e (stop (refusal.Memory er)) v = v

judged : (s : State) (at : ℕ) (token : Token) → Verdict step s at token
    (step at_most_200 s at token)
judged Start at (word.Further further.Module) = refl
judged ModuleName at (word.Con n) = refl
judged (NameEnd b) at word.Semicolon = refl
judged (Exports h) at (word.Further further.Export) = refl
judged (Exports h) at (word.Further further.Import) = refl
judged (Exports h) at token = verdict_behind h (Exports h) (core.top []) at token refl
    (core.step at_most_200 (core.top []) at token)
    ((core_laws_in Modules).judged (core.top []) at token)
judged (ExportWords h) at (word.Name n) = refl
judged (ExportWords h) at (word.Con n) = refl
judged (ExportWords h) at word.Semicolon = refl
judged (Imports h) at (word.Further further.Import) = refl
judged (Imports h) at token = verdict_behind h (Imports h) (core.top []) at token refl
    (core.step at_most_200 (core.top []) at token)
    ((core_laws_in Modules).judged (core.top []) at token)
judged (ImportName h) at (word.Con n) = refl
judged (ImportWords h b bs) at (word.Name n) = refl
judged (ImportWords h b bs) at (word.Con n) = refl
judged (ImportWords h b bs) at word.Semicolon = refl
judged (heading.Declares h s) at token = verdict_behind h (heading.Declares h s) s at token refl
    (core.step at_most_200 s at token) ((core_laws_in Modules).judged s at token)
judged s at token = by_plain step s at token (stop (expression.refused at token)) refl
    (refused_plain State ModuleParts at token)

stopped : (h : ModuleHeader) (st : Step core.State (List Decl)) (e : ReadRefusal)
    → behind_head h st ≡ stop e → st ≡ stop e
stopped h (go s) e f = absurd cc
stopped h (done ds) e f = absurd cc
stopped h (stop e') e f = cc

large_goes : (s : State) (at p : ℕ) (minus : Bool) (v : ℤ)
    → step unlimited_nesting s at (word.Large minus) ≡ stop (refusal.NumberRange p)
    → (minus ≡ false → (n : ℕ) × (v ≡ pos n)) → Accepts step s at minus v
large_goes (heading.Declares h s) at p minus v e f =
    let g = (core_laws_in Modules).large_goes s at p minus v
    (stopped h (core.step unlimited_nesting s at (word.Large minus)) (refusal.NumberRange p) e)
    f in
    (heading.Declares h g.0, ap (behind_head h) g.1)
large_goes Start at p minus v e f = absurd cc
large_goes ModuleName at p minus v e f = absurd cc
large_goes (NameEnd b) at p minus v e f = absurd cc
large_goes (Exports h) at p minus v e f = absurd cc
large_goes (ExportWords h) at p minus v e f = absurd cc
large_goes (Imports h) at p minus v e f = absurd cc
large_goes (ImportName h) at p minus v e f = absurd cc
large_goes (ImportWords h b bs) at p minus v e f = absurd cc

large_stops : (s : State) (at p : ℕ) (minus : Bool) (v : ℤ)
    → step unlimited_nesting s at (word.Large minus) ≡ stop (refusal.Syntax p)
    → step unlimited_nesting s at (word.Number minus v) ≡ stop (refusal.Syntax p)
large_stops (heading.Declares h s) at p minus v e = ap (behind_head h)
    ((core_laws_in Modules).large_stops s at p minus v
    (stopped h (core.step unlimited_nesting s at (word.Large minus)) (refusal.Syntax p) e))
large_stops Start at p minus v e = e
large_stops ModuleName at p minus v e = e
large_stops (NameEnd b) at p minus v e = e
large_stops (Exports h) at p minus v e = e
large_stops (ExportWords h) at p minus v e = e
large_stops (Imports h) at p minus v e = e
large_stops (ImportName h) at p minus v e = e
large_stops (ImportWords h b bs) at p minus v e = e

went_on : (h : ModuleHeader) (st : Step core.State (List Decl)) (next : State)
    → behind_head h st ≡ go next → (s : core.State) × (st ≡ go s)
went_on h (go s) next e = (s, refl)
went_on h (done ds) next e = absurd cc
went_on h (stop f) next e = absurd cc

stays_behind : (h : ModuleHeader) (s : core.State) (next : State) (at : ℕ) (token : Token)
    → IsLast token → behind_head h (core.step at_most_200 s at token) ≡ go next → ⊥
stays_behind h s next at token last e =
    let w = went_on h (core.step at_most_200 s at token) next e in
    (core_laws_in Modules).last_stays s w.0 at token last w.1

last_stays : (s next : State) (at : ℕ) (token : Token) → IsLast token
    → step at_most_200 s at token ≡ go next → ⊥
last_stays (heading.Declares h s) next at token last e = stays_behind h s next at token last e
last_stays s next at word.Bad last e = cc
last_stays s next at word.End last e = cc
last_stays s next at (word.Large minus) last e = cc
last_stays s next at token last e = absurd last

behind_done : (h : ModuleHeader) (st : Step core.State (List Decl)) (a : ModuleParts)
    → behind_head h st ≡ done a → (ds : List Decl) × (st ≡ done ds)
behind_done h (go s) a e = absurd cc
behind_done h (done ds) a e = (ds, refl)
behind_done h (stop f) a e = absurd cc

done_behind : (h : ModuleHeader) (s : core.State) (at : ℕ) (token : Token) (a : ModuleParts)
    → behind_head h (core.step at_most_200 s at token) ≡ done a → token ≡ word.End
done_behind h s at token a e =
    let w = behind_done h (core.step at_most_200 s at token) a e in
    (core_laws_in Modules).done_last s at token w.0 w.1

done_last : (s : State) (at : ℕ) (token : Token) (a : ModuleParts)
    → step at_most_200 s at token ≡ done a → token ≡ word.End
done_last (heading.Declares h s) at token a e = done_behind h s at token a e
done_last (Exports h) at (word.Further further.Export) a e = absurd cc
done_last (Exports h) at (word.Further further.Import) a e = absurd cc
done_last (Exports h) at token a e = done_behind h (core.top []) at token a e
done_last (Imports h) at (word.Further further.Import) a e = absurd cc
done_last (Imports h) at token a e = done_behind h (core.top []) at token a e
done_last Start at (word.Further further.Module) a e = absurd cc
done_last ModuleName at (word.Con n) a e = absurd cc
done_last (NameEnd b) at word.Semicolon a e = absurd cc
done_last (ExportWords h) at (word.Name n) a e = absurd cc
done_last (ExportWords h) at (word.Con n) a e = absurd cc
done_last (ExportWords h) at word.Semicolon a e = absurd cc
done_last (ImportName h) at (word.Con n) a e = absurd cc
done_last (ImportWords h b bs) at (word.Name n) a e = absurd cc
done_last (ImportWords h b bs) at (word.Con n) a e = absurd cc
done_last (ImportWords h b bs) at word.Semicolon a e = absurd cc
done_last s at token a e = absurd cc

-- ---- the trees

spelled_by : (l : NestingLimit) (m : Module) (ps : List Piece) (h : IsSpelled l m ps)
    → SpellsModule l (module_header_of m, h.decls) (map (said Modules (names_of Modules ps)) ps)
spelled_by l m ps h = subst
    (λ v. SpellsModule l (module_header_of m, h.decls) (map (said Modules v) ps)) h.names h.spelled

abbrev pub module_with : List (List ℕ) → ModuleParts → Module
module_with names a =
    record {
      names = names;
      name = a.0.name;
      exports = a.0.exports;
      imports
          = a.0.imports;
      constructors = constructors_of a.1;
      functions = functions_of a.1;
    }

made_of : (l : NestingLimit) (a : ModuleParts) (ps : List Piece)
    → SpellsModule l a (map (said Modules (names_of Modules ps)) ps) → (m : Module)
    × IsSpelled l m ps
made_of l a ps h = (
  module_with (names_of Modules ps) a,
  record
      { names = refl; decls = a.1; constructors = refl; functions = refl; spelled = h },
)

abbrev SameParts : ModuleParts → ModuleParts → Type 0
SameParts a b = a ≡ b

same_by : (l : NestingLimit) (m q : Module) (ps : List Piece) (h : IsSpelled l m ps)
    (g : IsSpelled l q ps) → SameParts (module_header_of m, h.decls) (module_header_of q, g.decls)
    → m ≡ q
same_by l m q ps h g e =
    let names : m.names ≡ q.names = h.names ∙ sym g.names in
    let constructors : m.constructors ≡ q.constructors
    = sym h.constructors ∙ ap (λ (a : ModuleParts). constructors_of a.1) e ∙ g.constructors in
    let functions : m.functions ≡ q.functions = sym h.functions ∙ ap
    (λ (a : ModuleParts). functions_of a.1) e ∙ g.functions in
    λ i. record {
      names = names i;
      name = (e i).0.name;
      exports = (e i).0.exports;
      imports
          = (e i).0.imports;
      constructors = constructors i;
      functions = functions i;
    }

reading_laws : Laws Modules modules
reading_laws = record {
  Consumed = Consumed;
  begins = λ l. refl;
  sound = sound;
  ending = ending;
  ends = ends;
  whole = whole;
  judged = judged;
  large_goes = large_goes;
  large_stops = large_stops;
  last_stays = last_stays;
  done_last = done_last;
}

pub module_laws : ReadsLanguage Modules modules IsSpelled
module_laws = record {
  laws = reading_laws;
  tree = λ l m ps h. (module_header_of m, h.decls);
  spelled = spelled_by;
  made = made_of;
  same = same_by;
}

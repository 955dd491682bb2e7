-- Constraints that are added.
use Rattle.std.proofs.Common.{◌≡◌, ℕ, ◌-◌, List, [], ◌∷◌, ◌++◌, length, drop, refl, sym, ap, subst, ◌∙◌, append_assoc}
use Rattle.seq.proofs.Lists.{map_push}
use Rattle.core_types.specs.declared.nodes.Nodes.{Nodes}
use Rattle.core_types.specs.declared.building.ConstraintBuilder.{ConstraintBuilder}
use Rattle.core_types.specs.Typing.{Typed, Constraint, Locals}
use Rattle.core_types.specs.Nodes.{IsSound, Denotes, ExtendsNodes, PairsDenote}
use Rattle.core_types.specs.Building.{DenoteLocals, HasLocalsInScope, Stands, Adds, EntersLocals, places_of}
use Rattle.arity_check.proofs.Counts.{left_append}
use Rattle.core_types.proofs.Denoting.{grows_refl, grows_then}

pub stand_kept : (n n' : Nodes) → ExtendsNodes n n' → (cs : List Constraint) (ps : List (ℕ × ℕ))
    → PairsDenote n cs ps → PairsDenote n' cs ps
stand_kept n n' g [] ps s = s
stand_kept n n' g (c ∷ cs) ps s =
    (s.0, s.1, s.2, g.one c.left s.0.0 s.3, g.one c.right s.0.1 s.4, stand_kept n n' g cs s.1 s.5)

stand_more : (n : Nodes) (cs : List Constraint) (ps : List (ℕ × ℕ)) (c : Constraint) (p : ℕ × ℕ)
    → PairsDenote n cs ps → Denotes n c.left p.0 → Denotes n c.right p.1
    → PairsDenote n (cs ++ c ∷ []) (ps ++ p ∷ [])
stand_more n [] ps c p s l r = (p, [], ap (λ ps. ps ++ p ∷ []) s, l, r, refl)
stand_more n (d ∷ cs) ps c p s l r =
    (s.0, s.1 ++ p ∷ [], ap (λ ps. ps ++ p ∷ []) s.2, s.3, s.4, stand_more n cs s.1 c p s.5 l r)

pub locals_kept : (n n' : Nodes) → ExtendsNodes n n' → (ls : Locals) (sc : List (ℕ × ℕ))
    → DenoteLocals n ls sc → DenoteLocals n' ls sc
locals_kept n n' g [] sc d = d
locals_kept n n' g (l ∷ ls) sc d = (d.0, d.1, d.2, g.one l.1 d.0 d.3, locals_kept n n' g ls d.1 d.4)

pub adds_nodes : (b b' : ConstraintBuilder) → ExtendsNodes b.nodes b'.nodes → b'.scope ≡ b.scope
    → b'.pairs.items ≡ b.pairs.items → b'.places.items ≡ b.places.items → Adds b b' []
adds_nodes b b' g s p q = record {
  grows = g;
  scope = s;
  stands = λ before h. record {
    pairs = subst (λ cs. PairsDenote b'.nodes cs b'.pairs.items) (sym (no_more before))
        (subst (PairsDenote b'.nodes before) (sym p)
        (stand_kept b.nodes b'.nodes g before b.pairs.items h.pairs));
    places = ap places_of (no_more before) ∙ h.places ∙ sym q;
  };
}
  where
    no_more : (cs : List Constraint) → cs ++ [] ≡ cs
    no_more [] = refl
    no_more (c ∷ cs) = ap (λ cs. c ∷ cs) (no_more cs)

pub adds_then : (a b c : ConstraintBuilder) (xs ys : List Constraint) → Adds a b xs → Adds b c ys
    → Adds a c (xs ++ ys)
adds_then a b c xs ys g h = record {
  grows = grows_then a.nodes b.nodes c.nodes g.grows h.grows;
  scope = h.scope ∙ g.scope;
  stands = λ before s. subst (Stands c) (append_assoc before xs ys)
      (h.stands (before ++ xs) (g.stands before s));
}

pub adds_as : (b b' : ConstraintBuilder) (xs ys : List Constraint) → ys ≡ xs → Adds b b' xs
    → Adds b b' ys
adds_as b b' xs ys e h = subst (Adds b b') (sym e) h

pub at_kept : (b b' : ConstraintBuilder) (xs : List Constraint) (ls : Locals) → Adds b b' xs
    → HasLocalsInScope b ls → HasLocalsInScope b' ls
at_kept b b' xs ls h i = record {
  sound = h.grows.sound;
  locals = subst (DenoteLocals b'.nodes ls) (sym h.scope)
      (locals_kept b.nodes b'.nodes h.grows ls b.scope i.locals);
}

pub adds_one : (b b' : ConstraintBuilder) (c : Constraint) (x y : ℕ) → b'.nodes ≡ b.nodes
    → b'.scope ≡ b.scope → b'.pairs.items ≡ b.pairs.items ++ (x, y) ∷ []
    → b'.places.items ≡ b.places.items ++ c.at ∷ []
    → IsSound b.nodes → Denotes b.nodes c.left x → Denotes b.nodes c.right y → Adds b b' (c ∷ [])
adds_one b b' c x y n s p q h l r =
    let g : ExtendsNodes b.nodes b'.nodes = subst (ExtendsNodes b.nodes) (sym n)
    (grows_refl b.nodes h) in
    record {
      grows = g;
      scope = s;
      stands = λ before k. record {
        pairs = subst (PairsDenote b'.nodes (before ++ c ∷ [])) (sym p)
            (stand_more b'.nodes before b.pairs.items c (x, y)
            (stand_kept b.nodes b'.nodes g before b.pairs.items k.pairs) (g.one c.left x l)
            (g.one c.right y r));
        places = map_push (λ (c : Constraint). c.at) before c ∙ ap (λ ps. ps ++ c.at ∷ []) k.places
            ∙ sym q;
      };
    }

-- ---- names that enter a scope

pub enters_none : (b : ConstraintBuilder) (ls : Locals) → HasLocalsInScope b ls
    → EntersLocals b b ls
enters_none b ls h = record {
  grows = grows_refl b.nodes h.sound;
  pairs = refl;
  places = refl;
  more = [];
  scope
      = refl;
  locals = h.locals;
}

pub enters_one : (b b' : ConstraintBuilder) (ls : Locals) (n x : ℕ) (t : Typed) → b'.nodes ≡ b.nodes
    → b'.pairs.items ≡ b.pairs.items → b'.places.items ≡ b.places.items
    → b'.scope ≡ (n, x) ∷ b.scope
    → HasLocalsInScope b ls → Denotes b.nodes t x → EntersLocals b b' ((n, t) ∷ ls)
enters_one b b' ls n x t e p q s h d = record {
  grows = subst (ExtendsNodes b.nodes) (sym e) (grows_refl b.nodes h.sound);
  pairs = p;
  places = q;
  more = (n, x) ∷ [];
  scope = s;
  locals = subst (λ m. DenoteLocals m ((n, t) ∷ ls) b'.scope) (sym e) (x, b.scope, s, d, h.locals);
}

pub enters_at : (b b' : ConstraintBuilder) (ls : Locals) → EntersLocals b b' ls
    → HasLocalsInScope b' ls
enters_at b b' ls h = record { sound = h.grows.sound; locals = h.locals }

pub enters_then : (a b c : ConstraintBuilder) (ls ls' : Locals) → EntersLocals a b ls
    → EntersLocals b c ls' → EntersLocals a c ls'
enters_then a b c ls ls' g h = record {
  grows = grows_then a.nodes b.nodes c.nodes g.grows h.grows;
  pairs = h.pairs ∙ g.pairs;
  places = h.places ∙ g.places;
  more = h.more ++ g.more;
  scope = h.scope ∙ ap (λ l. h.more ++ l) g.scope ∙ sym (append_assoc h.more g.more a.scope);
  locals = h.locals;
}

-- terms were added before
pub enters_after : (a b c : ConstraintBuilder) (ls : Locals) → ExtendsNodes a.nodes b.nodes
    → b.pairs.items ≡ a.pairs.items → b.places.items ≡ a.places.items → b.scope ≡ a.scope
    → EntersLocals b c ls → EntersLocals a c ls
enters_after a b c ls g p q s h = record {
  grows = grows_then a.nodes b.nodes c.nodes g h.grows;
  pairs = h.pairs ∙ p;
  places = h.places ∙ q;
  more = h.more;
  scope = h.scope ∙ ap (λ l. h.more ++ l) s;
  locals = h.locals;
}

-- the names leave the scope
pub leaves : (a b c d : ConstraintBuilder) (ls : Locals) (cs : List Constraint)
    → EntersLocals a b ls → Adds b c cs → d.nodes ≡ c.nodes → d.pairs.items ≡ c.pairs.items
    → d.places.items ≡ c.places.items
    → d.scope ≡ drop (length c.scope - length a.scope) c.scope → Adds a d cs
leaves a b c d ls cs g h n p q s = record {
  grows = subst (ExtendsNodes a.nodes) (sym n) (grows_then a.nodes b.nodes c.nodes g.grows h.grows);
  scope = s ∙ ap (λ l. drop (length l - length a.scope) l) (h.scope ∙ g.scope) ∙ left_append g.more
      a.scope;
  stands = λ before k.
      let m = h.stands before
      (record {
        pairs = subst (PairsDenote b.nodes before) (sym g.pairs)
            (stand_kept a.nodes b.nodes g.grows before a.pairs.items k.pairs);
        places
            = k.places ∙ sym g.places;
      }) in
      record {
        pairs = subst (PairsDenote d.nodes (before ++ cs)) (sym p)
            (subst (λ n. PairsDenote n (before ++ cs) c.pairs.items) (sym n) m.pairs);
        places = m.places ∙ sym q;
      };
}

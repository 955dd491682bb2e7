-- What is kept where words alone change and alternatives go: relations that are so for each piece
-- if they are for its parts.
use Rattle.std.proofs.Common.{◌≡◌, ℕ, ◌+◌, ◌≤◌, List, [], ◌∷◌, ◌++◌, map, length, refl, sym, ap, subst, arith}
use Rattle.std.proofs.lemmas.List.{length-map}
use Rattle.grin_syntax.specs.declared.program.Cell.{Cell}
use Rattle.grin_syntax.specs.declared.program.Shape.{Shape}
use Rattle.grin_syntax.specs.declared.program.Target.{Target}
use Rattle.grin_syntax.specs.declared.program.Val.{Val}
use Rattle.grin_syntax.specs.declared.program.Val.TheVariants.{NodeVar, Node, Vector, One}
use Rattle.grin_syntax.specs.declared.program.Word.{Word}
use Rattle.grin_syntax.specs.Tree.{Code, end, store, bind, Act, Leaf, leaf, unit, fetch, fetch_word, update, eval, apply, call, prim, read, write, fail, case, nested, Arms, no_arm, arm, as_act}
use Rattle.grin_syntax.specs.Binders.{target_vars, shape_vars, cell_vars, act_vars, code_vars, arms_vars, act_sites, code_sites, arms_sites}
use Rattle.grin_syntax.specs.Formed.{AllOf}
use Rattle.grin_meaning.specs.Ready.{EachAct, EachCode, EachArms, NoNodeVar, val_width, NarrowAct, NarrowCode, NarrowArms, PieceKind, inlined_kind, without_node_fetches, vectorised_kind, narrow_kind}
use Rattle.grin_meaning.specs.Slim.{val_weight, cells_weight, act_weight, code_weight, arms_weight, act_calls, code_calls, arms_calls, node_words, end_words, inner_words, code_words, arms_words}
use Rattle.pass_ground.specs.OpenUpdates.{act_update_sum, code_update_sum, arms_update_sum}
use Rattle.seq.specs.Lists.{times}
use Rattle.seq.proofs.Counted.{times_fewer, times_append}
use Rattle.grin_rewrite.specs.ByWords.{words_by, val_by, cells_by, leaf_by}

-- alternatives without some of these
pub data FewerArms : Arms → Arms → Type 0 where
  none : FewerArms no_arm no_arm
  keeps : (s : Shape) (b : Code) (as' bs' : Arms) → FewerArms as' bs'
      → FewerArms (arm s b as') (arm s b bs')
  leaves : (s : Shape) (b : Code) (as' bs' : Arms) → FewerArms as' bs' → FewerArms (arm s b as') bs'

pub record Kept : Type 1 where
  pub act : Act → Act → Type 0
  pub code : Code → Code → Type 0
  pub arms : Arms → Arms → Type 0
  pub value : Val → Val → Type 0
  pub leafs : (w : Word → Word) (l : Leaf) → ((v : Val) → value v (val_by w v))
      → act (leaf l) (leaf (leaf_by w l))
  pub cases : (v v' : Val) (as' bs' : Arms) → value v v' → arms as' bs'
      → act (case v as') (case v' bs')
  pub blocks : (b b' : Code) → code b b' → act (nested b) (nested b')
  pub ends : (o o' : Act) → act o o' → code (end o) (end o')
  pub stores : (w : Word → Word) (cs : List Cell) (b b' : Code) → ((v : Val) → value v (val_by w v))
      → code b b' → code (store cs b) (store (cells_by w cs) b')
  pub binds : (t : Target) (o o' : Act) (b b' : Code) → act o o' → code b b'
      → code (bind t o b) (bind t o' b')
  pub none_left : arms no_arm no_arm
  pub more : (s : Shape) (b b' : Code) (as' bs' : Arms) → code b b' → arms as' bs'
      → arms (arm s b as') (arm s b' bs')
  pub drops : (s : Shape) (b : Code) (as' bs' : Arms) → arms as' bs' → arms (arm s b as') bs'
  -- an alternative, or a failure, takes the place of a case
  pub takes : (v : Val) (as' : Arms) (s : Shape) (b : Code) (bs' : Arms) → arms as' (arm s b bs')
      → act (case v as') (as_act b)
  pub passes : (as' : Arms) (s : Shape) (b : Code) (bs' : Arms) → arms as' (arm s b bs')
      → arms as' bs'
  pub fails : (v : Val) (as' : Arms) → act (case v as') (leaf fail)
  pub same_code : (b : Code) → code b b
  pub again : (as' bs' cs' : Arms) → arms as' bs' → arms bs' cs' → arms as' cs'

-- where alternatives go
pub fewer_kept : (q : Kept) {as' bs' : Arms} → FewerArms as' bs' → q.arms as' bs'
fewer_kept q none = q.none_left
fewer_kept q (keeps s b as' bs' h) = q.more s b b as' bs' (q.same_code b) (fewer_kept q h)
fewer_kept q (leaves s b as' bs' h) = q.drops s b as' bs' (fewer_kept q h)

-- ---- variables and sites

module _ (w : Word → Word) where
  pub cells_bind : (cs : List Cell) → cell_vars (cells_by w cs) ≡ cell_vars cs
  cells_bind [] = refl
  cells_bind (c ∷ cs) = ap (λ xs. c.var.0 ∷ xs) (cells_bind cs)

  pub cells_stand : (cs : List Cell) → map (λ c. c.site.0) (cells_by w cs) ≡ map (λ c. c.site.0) cs
  cells_stand [] = refl
  cells_stand (c ∷ cs) = ap (λ xs. c.site.0 ∷ xs) (cells_stand cs)

module _ (y : ℕ) where
  -- beside the same
  pub beside : (xs ys zs : List ℕ) → times y ys ≤ times y zs
      → times y (xs ++ ys) ≤ times y (xs ++ zs)
  beside xs ys zs h = times_fewer y xs ys xs zs (omega arith) h

  pub behind : (xs ys : List ℕ) (n : ℕ) → n ≤ times y ys → n ≤ times y (xs ++ ys)
  behind xs ys n h = let e : times y (xs ++ ys) ≡ times y xs + times y ys = times_append y xs ys
      in omega (arith, e, h)

  left_of : (xs ys : List ℕ) (n : ℕ) → times y (xs ++ ys) ≤ n → times y xs ≤ n
  left_of xs ys n h = let e : times y (xs ++ ys) ≡ times y xs + times y ys = times_append y xs ys
      in omega (arith, e, h)

  right_of : (xs ys : List ℕ) (n : ℕ) → times y (xs ++ ys) ≤ n → times y ys ≤ n
  right_of xs ys n h = let e : times y (xs ++ ys) ≡ times y xs + times y ys = times_append y xs ys
      in omega (arith, e, h)

  pub vars_taken : (n : ℕ) (s : Shape) (b : Code) (bs' : Arms)
      → times y (arms_vars (arm s b bs')) ≤ n → times y (act_vars (as_act b)) ≤ n
  unfolding act_vars
  vars_taken n s b bs' h = go b
      (left_of (code_vars b) (arms_vars bs') n
      (right_of (shape_vars s) (code_vars b ++ arms_vars bs') n h))
    where
      go : (b : Code) → times y (code_vars b) ≤ n → times y (act_vars (as_act b)) ≤ n
      go (end o) k = k
      go (store cs b) k = k
      go (bind t o b) k = k

  pub vars_passed : (n : ℕ) (s : Shape) (b : Code) (bs' : Arms)
      → times y (arms_vars (arm s b bs')) ≤ n → times y (arms_vars bs') ≤ n
  unfolding act_vars
  vars_passed n s b bs' h = right_of (code_vars b) (arms_vars bs') n
      (right_of (shape_vars s) (code_vars b ++ arms_vars bs') n h)

  pub sites_taken : (n : ℕ) (s : Shape) (b : Code) (bs' : Arms)
      → times y (arms_sites (arm s b bs')) ≤ n → times y (act_sites (as_act b)) ≤ n
  unfolding act_sites
  sites_taken n s b bs' h = go b (left_of (code_sites b) (arms_sites bs') n h)
    where
      go : (b : Code) → times y (code_sites b) ≤ n → times y (act_sites (as_act b)) ≤ n
      go (end o) k = k
      go (store cs b) k = k
      go (bind t o b) k = k

  pub sites_passed : (n : ℕ) (s : Shape) (b : Code) (bs' : Arms)
      → times y (arms_sites (arm s b bs')) ≤ n → times y (arms_sites bs') ≤ n
  unfolding act_sites
  sites_passed n s b bs' h = right_of (code_sites b) (arms_sites bs') n h

  pub on : (a b c : ℕ) → b ≤ a → c ≤ b → c ≤ a
  on a b c h k = omega (arith, h, k)

  unfoldable pub vars_kept : Kept
  unfolding act_vars
  vars_kept = record {
    act = λ o o'. times y (act_vars o') ≤ times y (act_vars o);
    code = λ b b'. times y (code_vars b') ≤ times y (code_vars b);
    arms = λ as' bs'. times y (arms_vars bs') ≤ times y (arms_vars as');
    value = λ v v'. Unit {0};
    leafs = λ w l h. omega arith;
    cases = λ v v' as' bs' h k. k;
    blocks = λ b b' h. h;
    ends = λ o o' h. h;
    stores = λ w cs b b' v h. subst
        (λ xs. times y (xs ++ code_vars b') ≤ times y (cell_vars cs ++ code_vars b))
        (sym (cells_bind w cs)) (beside (cell_vars cs) (code_vars b') (code_vars b) h);
    binds = λ t o o' b b' h k. beside (target_vars t) (act_vars o' ++ code_vars b')
        (act_vars o ++ code_vars b)
        (times_fewer y (act_vars o') (code_vars b') (act_vars o) (code_vars b) h k);
    none_left = omega arith;
    more = λ s b b' as' bs' h k. beside (shape_vars s) (code_vars b' ++ arms_vars bs')
        (code_vars b ++ arms_vars as')
        (times_fewer y (code_vars b') (arms_vars bs') (code_vars b) (arms_vars as') h k);
    drops = λ s b as' bs' h. behind (shape_vars s) (code_vars b ++ arms_vars as')
        (times y (arms_vars bs'))
        (behind (code_vars b) (arms_vars as') (times y (arms_vars bs')) h);
    takes = λ v as' s b bs' h. vars_taken (times y (arms_vars as')) s b bs' h;
    passes = λ as' s b bs' h. vars_passed (times y (arms_vars as')) s b bs' h;
    fails = λ v as'. omega arith;
    same_code = λ b. omega arith;
    again = λ as' bs' cs' h k. on (times y (arms_vars as')) (times y (arms_vars bs'))
        (times y (arms_vars cs')) h k;
  }

  unfoldable pub sites_kept : Kept
  unfolding act_sites
  sites_kept = record {
    act = λ o o'. times y (act_sites o') ≤ times y (act_sites o);
    code = λ b b'. times y (code_sites b') ≤ times y (code_sites b);
    arms = λ as' bs'. times y (arms_sites bs') ≤ times y (arms_sites as');
    value = λ v v'. Unit {0};
    leafs = λ w l h. omega arith;
    cases = λ v v' as' bs' h k. k;
    blocks = λ b b' h. h;
    ends = λ o o' h. h;
    stores = λ w cs b b' v h. subst
        (λ xs. times y (xs ++ code_sites b') ≤ times y (map (λ c. c.site.0) cs ++ code_sites b))
        (sym (cells_stand w cs)) (beside (map (λ c. c.site.0) cs) (code_sites b') (code_sites b) h);
    binds = λ t o o' b b' h k. times_fewer y (act_sites o') (code_sites b') (act_sites o)
        (code_sites b) h k;
    none_left = omega arith;
    more = λ s b b' as' bs' h k. times_fewer y (code_sites b') (arms_sites bs') (code_sites b)
        (arms_sites as') h k;
    drops = λ s b as' bs' h. behind (code_sites b) (arms_sites as') (times y (arms_sites bs')) h;
    takes = λ v as' s b bs' h. sites_taken (times y (arms_sites as')) s b bs' h;
    passes = λ as' s b bs' h. sites_passed (times y (arms_sites as')) s b bs' h;
    fails = λ v as'. omega arith;
    same_code = λ b. omega arith;
    again = λ as' bs' cs' h k. on (times y (arms_sites as')) (times y (arms_sites bs'))
        (times y (arms_sites cs')) h k;
  }

-- ---- the weight, the calls and the words

module _ (w : Word → Word) where
  pub as_heavy : (v : Val) → val_weight (val_by w v) ≡ val_weight v
  as_heavy (NodeVar x) = refl
  as_heavy (Node t ws) = refl
  as_heavy (Vector ws) = length-map ws w
  as_heavy (One a) = refl

  pub cells_as_heavy : (cs : List Cell) → cells_weight (cells_by w cs) ≡ cells_weight cs
  cells_as_heavy [] = refl
  cells_as_heavy (c ∷ cs) = λ i. 17 + as_heavy c.val i + cells_as_heavy cs i

  pub cells_as_many : (cs : List Cell) → length (cells_by w cs) ≡ length cs
  cells_as_many cs = length-map cs _

  pub leaf_as_heavy : (l : Leaf) → act_weight (leaf (leaf_by w l)) ≤ act_weight (leaf l)
  unfolding act_weight
  leaf_as_heavy (unit v) = let h : val_weight (val_by w v) ≡ val_weight v = as_heavy v
      in omega (arith, h)
  leaf_as_heavy (update a v) = let h : val_weight (val_by w v) ≡ val_weight v = as_heavy v
      in omega (arith, h)
  leaf_as_heavy (apply v a) = let h : val_weight (val_by w v) ≡ val_weight v = as_heavy v
      in omega (arith, h)
  leaf_as_heavy (call f ws) = let h : length (words_by w ws) ≡ length ws = length-map ws w
      in omega (arith, h)
  leaf_as_heavy _ = omega arith

  pub leaf_calls : (l : Leaf) → act_calls (leaf (leaf_by w l)) ≤ act_calls (leaf l)
  unfolding act_calls
  leaf_calls (call f ws) = omega arith
  leaf_calls _ = omega arith

  pub leaf_words : (l : Leaf) → (node_words (leaf (leaf_by w l)) ≡ node_words (leaf l))
      × (end_words (leaf (leaf_by w l)) ≡ end_words (leaf l))
  leaf_words (call f ws) = (refl, refl)
  leaf_words _ = (refl, refl)

pub weight_of : (b : Code) → act_weight (as_act b) ≤ 16 + code_weight b
unfolding act_weight
weight_of (end o) = omega arith
weight_of (store cs b) = omega arith
weight_of (bind t o b) = omega arith

unfoldable pub weight_kept : Kept
unfolding act_weight
weight_kept = record {
  act = λ o o'. act_weight o' ≤ act_weight o;
  code = λ b b'. code_weight b' ≤ code_weight b;
  arms = λ as' bs'. arms_weight bs' ≤ arms_weight as';
  value = λ v v'. val_weight v' ≡ val_weight v;
  leafs = λ w l h. leaf_as_heavy w l;
  cases = λ v v' as' bs' h k. omega (arith, h, k);
  blocks = λ b b' h. omega (arith, h);
  ends = λ o o' h. h;
  stores = λ w cs b b' v h.
      (let e : cells_weight (cells_by w cs) ≡ cells_weight cs = cells_as_heavy w cs
      in omega (arith, e, h));
  binds = λ t o o' b b' h k. omega (arith, h, k);
  none_left = omega arith;
  more = λ s b b' as' bs' h k. omega (arith, h, k);
  drops = λ s b as' bs' h. omega (arith, h);
  takes = λ v as' s b bs' h.
      (let k : act_weight (as_act b) ≤ 16 + code_weight b = weight_of b in omega (arith, h, k));
  passes = λ as' s b bs' h. omega (arith, h);
  fails = λ v as'. omega arith;
  same_code = λ b. omega arith;
  again = λ as' bs' cs' h k. omega (arith, h, k);
}

pub calls_of : (b : Code) → act_calls (as_act b) ≡ code_calls b
unfolding act_calls
calls_of (end o) = refl
calls_of (store cs b) = refl
calls_of (bind t o b) = refl

unfoldable pub calls_kept : Kept
unfolding act_calls
calls_kept = record {
  act = λ o o'. act_calls o' ≤ act_calls o;
  code = λ b b'. code_calls b' ≤ code_calls b;
  arms = λ as' bs'. arms_calls bs' ≤ arms_calls as';
  value = λ v v'. Unit {0};
  leafs = λ w l h. leaf_calls w l;
  cases = λ v v' as' bs' h k. k;
  blocks = λ b b' h. h;
  ends = λ o o' h. h;
  stores = λ w cs b b' v h. h;
  binds = λ t o o' b b' h k. omega (arith, h, k);
  none_left = omega arith;
  more = λ s b b' as' bs' h k. omega (arith, h, k);
  drops = λ s b as' bs' h. omega (arith, h);
  takes = λ v as' s b bs' h.
      (let k : act_calls (as_act b) ≡ code_calls b = calls_of b in omega (arith, h, k));
  passes = λ as' s b bs' h. omega (arith, h);
  fails = λ v as'. omega arith;
  same_code = λ b. omega arith;
  again = λ as' bs' cs' h k. omega (arith, h, k);
}

-- where it is bound, and where it ends a block
pub record FewerWords (o o' : Act) : Type 0 where
  pub bound : node_words o' + inner_words o' ≤ node_words o + inner_words o
  pub last : end_words o' + inner_words o' ≤ end_words o + inner_words o

node_within : (o : Act) → node_words o ≤ end_words o
node_within (leaf (call f ws)) = omega arith
node_within (leaf (fetch a)) = omega arith
node_within (leaf _) = omega arith
node_within (case v as') = omega arith
node_within (nested b) = omega arith

pub words_of_block : (b : Code) → (node_words (as_act b) + inner_words (as_act b) ≤ code_words b)
    × (end_words (as_act b) + inner_words (as_act b) ≤ 1 + code_words b)
unfolding inner_words
words_of_block (end o) = let k : node_words o ≤ end_words o = node_within o
    in (omega (arith, k), omega arith)
words_of_block (store cs b) = (omega arith, omega arith)
words_of_block (bind t o b) = (omega arith, omega arith)

unfoldable pub words_kept : Kept
unfolding inner_words
words_kept = record {
  act = FewerWords;
  code = λ b b'. code_words b' ≤ code_words b;
  arms = λ as' bs'. arms_words bs' ≤ arms_words as';
  value = λ v v'. Unit {0};
  leafs = λ w l h. record {
    bound = (let e = (leaf_words w l).0 in omega (arith, e));
    last
        = (let e = (leaf_words w l).1 in omega (arith, e));
  };
  cases = λ v v' as' bs' h k. record { bound = omega (arith, k); last = omega (arith, k) };
  blocks = λ b b' h. record { bound = omega (arith, h); last = omega (arith, h) };
  ends = λ o o' h. h.last;
  stores = λ w cs b b' v h. (let e = cells_as_many w cs in omega (arith, e, h));
  binds = λ t o o' b b' h k. (let e = h.bound in omega (arith, e, k));
  none_left = omega arith;
  more = λ s b b' as' bs' h k. omega (arith, h, k);
  drops = λ s b as' bs' h. omega (arith, h);
  takes = λ v as' s b bs' h.
      (let k = words_of_block b in record {
        bound = (let e = k.0 in omega (arith, h, e));
        last
            = (let e = k.1 in omega (arith, h, e));
      });
  passes = λ as' s b bs' h. omega (arith, h);
  fails = λ v as'. record { bound = omega arith; last = omega arith };
  same_code = λ b. omega arith;
  again = λ as' bs' cs' h k. omega (arith, h, k);
}

-- ---- what updates count

module _ (count : Val → ℕ) where
  pub leaf_sum : (w : Word → Word) (l : Leaf) → ((v : Val) → count (val_by w v) ≤ count v)
      → act_update_sum count (leaf (leaf_by w l)) ≤ act_update_sum count (leaf l)
  unfolding act_update_sum
  leaf_sum w (update a v) h = h v
  leaf_sum w _ h = omega arith

  pub sum_of : (b : Code) → act_update_sum count (as_act b) ≡ code_update_sum count b
  unfolding act_update_sum
  sum_of (end o) = refl
  sum_of (store cs b) = refl
  sum_of (bind t o b) = refl

  unfoldable pub updates_kept : Kept
  unfolding act_update_sum
  updates_kept = record {
    act = λ o o'. act_update_sum count o' ≤ act_update_sum count o;
    code = λ b b'. code_update_sum count b' ≤ code_update_sum count b;
    arms = λ as' bs'. arms_update_sum count bs' ≤ arms_update_sum count as';
    value = λ v v'. count v' ≤ count v;
    leafs = leaf_sum;
    cases = λ v v' as' bs' h k. k;
    blocks = λ b b' h. h;
    ends = λ o o' h. h;
    stores = λ w cs b b' v h. h;
    binds = λ t o o' b b' h k. omega (arith, h, k);
    none_left = omega arith;
    more = λ s b b' as' bs' h k. omega (arith, h, k);
    drops = λ s b as' bs' h. omega (arith, h);
    takes = λ v as' s b bs' h.
        (let k : act_update_sum count (as_act b) ≡ code_update_sum count b = sum_of b
        in omega (arith, h, k));
    passes = λ as' s b bs' h. omega (arith, h);
    fails = λ v as'. omega arith;
    same_code = λ b. omega arith;
    again = λ as' bs' cs' h k. omega (arith, h, k);
  }

-- ---- kinds

-- a kind that looks neither at words nor at values and blocks of operations
pub record Blind (K : PieceKind) : Type 0 where
  pub leafs : (w : Word → Word) (l : Leaf) → K.operation (leaf l) → K.operation (leaf (leaf_by w l))
  pub cases : (v v' : Val) (as' bs' : Arms) → K.operation (case v as') → K.operation (case v' bs')
  pub blocks : (b b' : Code) → K.operation (nested b) → K.operation (nested b')
  pub wraps : (v : Val) (as' : Arms) (b : Code) → K.operation (case v as') → K.operation (nested b)
  pub fails : (v : Val) (as' : Arms) → K.operation (case v as') → K.operation (leaf fail)

module _ (K : PieceKind) (blind : Blind K) where
  pub leaf_each : (w : Word → Word) (l : Leaf) → ((v : Val) → K.value v → K.value (val_by w v))
      → EachAct K (leaf l) → EachAct K (leaf (leaf_by w l))
  unfolding EachAct
  leaf_each w (unit v) k h = (blind.leafs w (unit v) h.0, k v h.1)
  leaf_each w (update a v) k h = (blind.leafs w (update a v) h.0, k v h.1)
  leaf_each w (apply v a) k h = (blind.leafs w (apply v a) h.0, k v h.1)
  leaf_each w (fetch a) k h = blind.leafs w (fetch a) h
  leaf_each w (fetch_word a i) k h = blind.leafs w (fetch_word a i) h
  leaf_each w (eval a) k h = blind.leafs w (eval a) h
  leaf_each w (call f ws) k h = blind.leafs w (call f ws) h
  leaf_each w (prim p a b) k h = blind.leafs w (prim p a b) h
  leaf_each w read k h = blind.leafs w read h
  leaf_each w (write a) k h = blind.leafs w (write a) h
  leaf_each w fail k h = blind.leafs w fail h

  pub cells_each : (w : Word → Word) (cs : List Cell)
      → ((v : Val) → K.value v → K.value (val_by w v)) → AllOf {A = Cell} (λ c. K.value c.val) cs
      → AllOf {A = Cell} (λ c. K.value c.val) (cells_by w cs)
  cells_each w [] k h = tt
  cells_each w (c ∷ cs) k h = (k c.val h.0, cells_each w cs k h.1)

  pub each_of : (b : Code) → K.operation (nested b) → EachCode K b → EachAct K (as_act b)
  unfolding EachAct
  each_of (end o) k h = h
  each_of (store cs b) k h = (k, h)
  each_of (bind t o b) k h = (k, h)

  unfoldable pub each_kept : Kept
  unfolding EachAct
  each_kept = record {
    act = λ o o'. EachAct K o → EachAct K o';
    code = λ b b'. EachCode K b → EachCode K b';
    arms = λ as' bs'. EachArms K as' → EachArms K bs';
    value = λ v v'. K.value v → K.value v';
    leafs = leaf_each;
    cases = λ v v' as' bs' h k e. (blind.cases v v' as' bs' e.0, h e.1, k e.2);
    blocks = λ b b' h e. (blind.blocks b b' e.0, h e.1);
    ends = λ o o' h. h;
    stores = λ w cs b b' k h e. (cells_each w cs k e.0, h e.1);
    binds = λ t o o' b b' h k e. (e.0, h e.1, k e.2);
    none_left = λ e. tt;
    more = λ s b b' as' bs' h k e. (e.0, h e.1, k e.2);
    drops = λ s b as' bs' h e. h e.2;
    takes = λ v as' s b bs' h e. each_of b (blind.wraps v as' b e.0) (h e.2).1;
    passes = λ as' s b bs' h e. (h e).2;
    fails = λ v as' e. blind.fails v as' e.0;
    same_code = λ b e. e;
    again = λ as' bs' cs' h k e. k (h e);
  }

pub inlined_blind : Blind inlined_kind
inlined_blind = record {
  leafs = go;
  cases = λ v v' as' bs' h. tt;
  blocks = λ b b' h. tt;
  wraps
      = λ v as' b h. tt;
  fails = λ v as' h. tt;
}
  where
    go : (w : Word → Word) (l : Leaf) → inlined_kind.operation (leaf l)
        → inlined_kind.operation (leaf (leaf_by w l))
    go w (eval a) h = h
    go w (apply v a) h = h
    go w _ h = tt

pub by_words_blind : Blind without_node_fetches
by_words_blind = record {
  leafs = go;
  cases = λ v v' as' bs' h. tt;
  blocks = λ b b' h. tt;
  wraps
      = λ v as' b h. tt;
  fails = λ v as' h. tt;
}
  where
    go : (w : Word → Word) (l : Leaf) → without_node_fetches.operation (leaf l)
        → without_node_fetches.operation (leaf (leaf_by w l))
    go w (fetch a) h = h
    go w _ h = tt

pub vectorised_blind : Blind vectorised_kind
vectorised_blind = record {
  leafs = λ w l h. tt;
  cases = λ v v' as' bs' h. tt;
  blocks = λ b b' h. tt;
  wraps
      = λ v as' b h. tt;
  fails = λ v as' h. tt;
}

pub narrow_blind : (most : ℕ) → Blind (narrow_kind most)
narrow_blind most = record {
  leafs = λ w l h. tt;
  cases = λ v v' as' bs' h. tt;
  blocks = λ b b' h. tt;
  wraps
      = λ v as' b h. tt;
  fails = λ v as' h. tt;
}

pub no_variable : (w : Word → Word) (v : Val) → NoNodeVar v → NoNodeVar (val_by w v)
no_variable w (NodeVar x) h = h
no_variable w (Node t ws) h = tt
no_variable w (Vector ws) h = tt
no_variable w (One a) h = tt

-- ---- results

module _ (width most : ℕ) where
  as_wide : (w : Word → Word) (v : Val) → val_width width (val_by w v) ≡ val_width width v
  as_wide w (NodeVar x) = refl
  as_wide w (Node t ws) = refl
  as_wide w (Vector ws) = length-map ws w
  as_wide w (One a) = refl

  pub leaf_gives : (w : Word → Word) (l : Leaf) → NarrowAct width most (leaf l)
      → NarrowAct width most (leaf (leaf_by w l))
  unfolding NarrowAct
  leaf_gives w (unit v) h = subst (λ n. n ≤ most) (sym (as_wide w v)) h
  leaf_gives w (fetch a) h = h
  leaf_gives w _ h = tt

  pub gives_of : (b : Code) → NarrowCode width most b → NarrowAct width most (as_act b)
  unfolding NarrowAct
  gives_of (end o) h = h
  gives_of (store cs b) h = h
  gives_of (bind t o b) h = h

  unfoldable pub results_kept : Kept
  unfolding NarrowAct
  results_kept = record {
    act = λ o o'. NarrowAct width most o → NarrowAct width most o';
    code = λ b b'. NarrowCode width most b → NarrowCode width most b';
    arms = λ as' bs'. NarrowArms width most as' → NarrowArms width most bs';
    value = λ v v'. Unit {0};
    leafs = λ w l k. leaf_gives w l;
    cases = λ v v' as' bs' h k. k;
    blocks = λ b b' h. h;
    ends = λ o o' h. h;
    stores = λ w cs b b' v h. h;
    binds = λ t o o' b b' h k. k;
    none_left = λ e. tt;
    more = λ s b b' as' bs' h k e. (h e.0, k e.1);
    drops = λ s b as' bs' h e. h e.1;
    takes = λ v as' s b bs' h e. gives_of b (h e).0;
    passes = λ as' s b bs' h e. (h e).1;
    fails = λ v as' e. tt;
    same_code = λ b e. e;
    again = λ as' bs' cs' h k e. k (h e);
  }

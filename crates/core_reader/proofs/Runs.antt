-- The longest run of bytes of one kind.
use Rattle.std.proofs.Common.{◌≡◌, ℕ, zero, suc, ◌+◌, ◌<◌, ◌≤◌, Bool, true, false, cond, List, [], ◌∷◌, length, take, Some, None, refl, ap, ◌∙◌, arith}
use Rattle.std.specs.List.{take_while}
use Rattle.std.proofs.lemmas.List.Sums.{take_while-cons}
use Rattle.core_reader.specs.declared.dialect.Dialect.{Dialect}
use Rattle.core_reader.specs.declared.look.TokenKind.{TokenKind}
use Rattle.core_reader.specs.TokensOf.{every, kind_of, Longest}

pub run : (ℕ → Bool) → List ℕ → ℕ
run p [] = 0
run p (b ∷ bs) = cond (p b) (suc (run p bs)) 0

len_if : (b : Bool) (x : ℕ) (xs : List ℕ) (n : ℕ) → length xs ≡ n
    → length (cond b (x ∷ xs) []) ≡ cond b (suc n) 0
len_if true x xs n e = ap suc e
len_if false x xs n e = refl

pub len_run : (p : ℕ → Bool) (bs : List ℕ) → length (take_while p bs) ≡ run p bs
unfolding run
len_run p [] = refl
len_run p (b ∷ bs) = ap length (take_while-cons p b bs) ∙ len_if (p b) b (take_while p bs)
    (run p bs) (len_run p bs)

within_if : (b : Bool) (n m : ℕ) → n ≤ m → cond b (suc n) 0 ≤ suc m
within_if true n m h = omega arith
within_if false n m h = omega arith

pub within_run : (p : ℕ → Bool) (bs : List ℕ) → run p bs ≤ length bs
unfolding run
within_run p [] = omega arith
within_run p (b ∷ bs) = within_if (p b) (run p bs) (length bs) (within_run p bs)

every_if : (p : ℕ → Bool) (b : ℕ) (bs : List ℕ) (n : ℕ) (v : Bool) → p b ≡ v
    → every p (take n bs) ≡ true → every p (take (cond v (suc n) 0) (b ∷ bs)) ≡ true
every_if p b bs n true e h = rw (e, h) refl
every_if p b bs n false e h = refl

pub every_run : (p : ℕ → Bool) (bs : List ℕ) → every p (take (run p bs) bs) ≡ true
unfolding run
every_run p [] = refl
every_run p (b ∷ bs) = every_if p b bs (run p bs) (p b) refl (every_run p bs)

past_if : (p : ℕ → Bool) (b : ℕ) (bs : List ℕ) (n m : ℕ) (v : Bool) → p b ≡ v
    → (n < m → every p (take m bs) ≡ false) → cond v (suc n) 0 < suc m
    → every p (b ∷ take m bs) ≡ false
past_if p b bs n m true e h lt = rw (e, h (omega arith)) refl
past_if p b bs n m false e h lt = rw e refl

pub past_run : (p : ℕ → Bool) (bs : List ℕ) (m : ℕ) → run p bs < m → m ≤ length bs
    → every p (take m bs) ≡ false
unfolding run
past_run p [] m lt le = absurd (omega arith)
past_run p (b ∷ bs) zero lt le = absurd (omega arith)
past_run p (b ∷ bs) (suc m) lt le = past_if p b bs (run p bs) m (p b) refl
    (λ h. past_run p bs m h (omega arith)) lt

module _ (d : Dialect) where
  longer : (b : ℕ) (rest : List ℕ) (p : ℕ → Bool) (kind : TokenKind)
      → ((bs : List ℕ) → kind_of d (b ∷ bs) ≡ cond (every p bs) (Some kind) None)
      → (m : ℕ) → suc (run p rest) < m → m ≤ length (b ∷ rest)
      → kind_of d (take m (b ∷ rest)) ≡ None
  longer b rest p kind shape zero lt le = absurd (omega arith)
  longer b rest p kind shape (suc m) lt le = shape (take m rest) ∙ ap (λ v. cond v (Some kind) None)
      (past_run p rest m (omega arith) (omega arith))

  longer_two : (b c : ℕ) (rest : List ℕ) (p : ℕ → Bool) (kind : TokenKind)
      → ((bs : List ℕ) → kind_of d (b ∷ c ∷ bs) ≡ cond (every p bs) (Some kind) None)
      → (m : ℕ) → suc (suc (run p rest)) < m → m ≤ length (b ∷ c ∷ rest)
      → kind_of d (take m (b ∷ c ∷ rest)) ≡ None
  longer_two b c rest p kind shape zero lt le = absurd (omega arith)
  longer_two b c rest p kind shape (suc zero) lt le = absurd (omega arith)
  longer_two b c rest p kind shape (suc (suc m)) lt le
      = shape (take m rest) ∙ ap (λ v. cond v (Some kind) None)
      (past_run p rest m (omega arith) (omega arith))

  no_two : (b : ℕ) (rest : List ℕ) → ((c : ℕ) (bs : List ℕ) → kind_of d (b ∷ c ∷ bs) ≡ None)
      → (m : ℕ) → 1 < m → m ≤ length (b ∷ rest) → kind_of d (take m (b ∷ rest)) ≡ None
  no_two b rest none zero lt le = absurd (omega arith)
  no_two b rest none (suc zero) lt le = absurd (omega arith)
  no_two b [] none (suc (suc m)) lt le = absurd (omega arith)
  no_two b (c ∷ rest) none (suc (suc m)) lt le = none c (take m rest)

  no_three : (b c : ℕ) (rest : List ℕ) → ((e : ℕ) (bs : List ℕ) → kind_of d (b ∷ c ∷ e ∷ bs) ≡ None)
      → (m : ℕ) → 2 < m → m ≤ length (b ∷ c ∷ rest) → kind_of d (take m (b ∷ c ∷ rest)) ≡ None
  no_three b c rest none zero lt le = absurd (omega arith)
  no_three b c rest none (suc zero) lt le = absurd (omega arith)
  no_three b c rest none (suc (suc zero)) lt le = absurd (omega arith)
  no_three b c [] none (suc (suc (suc m))) lt le = absurd (omega arith)
  no_three b c (e ∷ rest) none (suc (suc (suc m))) lt le = none e (take m rest)

module _ {d : Dialect} where
  -- a token of one byte and a run, and of two bytes and a run
  pub longest_run : (b : ℕ) (rest : List ℕ) (p : ℕ → Bool) (kind : TokenKind)
      → ((bs : List ℕ) → kind_of d (b ∷ bs) ≡ cond (every p bs) (Some kind) None)
      → Longest d (1 + length (take_while p rest)) (b ∷ rest) kind
  longest_run b rest p kind shape =
      let n : 1 + length (take_while p rest) ≡ suc (run p rest) = omega (arith, len_run p rest) in
      rw n (record {
        within = omega (arith, within_run p rest);
        is_token = shape (take (run p rest) rest) ∙ ap (λ v. cond v (Some kind) None)
            (every_run p rest);
        no_longer = longer d b rest p kind shape;
      })

  pub longest_two : (b c : ℕ) (rest : List ℕ) (p : ℕ → Bool) (kind : TokenKind)
      → ((bs : List ℕ) → kind_of d (b ∷ c ∷ bs) ≡ cond (every p bs) (Some kind) None)
      → Longest d (2 + length (take_while p rest)) (b ∷ c ∷ rest) kind
  longest_two b c rest p kind shape =
      let n : 2 + length (take_while p rest) ≡ suc (suc (run p rest))
      = omega (arith, len_run p rest) in
      rw n (record {
        within = omega (arith, within_run p rest);
        is_token = shape (take (run p rest) rest) ∙ ap (λ v. cond v (Some kind) None)
            (every_run p rest);
        no_longer = longer_two d b c rest p kind shape;
      })

  -- a token of these bytes, where no longer one begins so
  pub longest_one : (b : ℕ) (rest : List ℕ) (kind : TokenKind) → kind_of d (b ∷ []) ≡ Some kind
      → ((c : ℕ) (bs : List ℕ) → kind_of d (b ∷ c ∷ bs) ≡ None) → Longest d 1 (b ∷ rest) kind
  longest_one b rest kind one none = record
      { within = omega arith; is_token = one; no_longer = no_two d b rest none }

  pub longest_arrow : (b c : ℕ) (rest : List ℕ) (kind : TokenKind)
      → kind_of d (b ∷ c ∷ []) ≡ Some kind →
      ((e : ℕ) (bs : List ℕ) → kind_of d (b ∷ c ∷ e ∷ bs) ≡ None) → Longest d 2 (b ∷ c ∷ rest) kind
  longest_arrow b c rest kind two none = record
      { within = omega arith; is_token = two; no_longer = no_three d b c rest none }

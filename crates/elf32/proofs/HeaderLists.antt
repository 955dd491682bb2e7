-- Program headers one after the other.
use Rattle.std.proofs.Common.{◌≡◌, ℕ, zero, suc, ◌+◌, ◌*◌, List, [], ◌∷◌, ◌++◌, ap, ◌∙◌, arith, add-one}
use Rattle.elf32.specs.declared.header.ProgramHeader.{ProgramHeader}
use Rattle.elf32.specs.Headers.{header_at, headers_from}

headers_from_suc : (file : List ℕ) (offset n : ℕ) → headers_from file offset (suc n) ≡ headers_from
    file offset n ++ header_at file (offset + 32 * n) ∷ []
headers_from_suc file offset zero = let e : offset ≡ offset + 32 * 0 = omega arith
    in ap (λ (o : ℕ). header_at file o ∷ []) e
headers_from_suc file offset (suc n) =
    let e : (offset + 32) + 32 * n ≡ offset + 32 * suc n = omega arith in
    ap (λ (hs : List ProgramHeader). header_at file offset ∷ hs)
    (headers_from_suc file (offset + 32) n ∙ ap
    (λ (o : ℕ). headers_from file (offset + 32) n ++ header_at file o ∷ []) e)

-- one more header
pub headers_from_more : (file : List ℕ) (offset n : ℕ)
    → headers_from file offset (n + 1) ≡ headers_from file offset n
    ++ header_at file (offset + 32 * n) ∷ []
headers_from_more file offset n = rw add-one (headers_from_suc file offset n)

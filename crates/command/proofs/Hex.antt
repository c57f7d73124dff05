-- The numbers and the bytes of words.
use Rattle.std.proofs.Common.{◌≡◌, ℕ, ◌+◌, ◌*◌, ◌^◌, ◌<◌, ◌≤◌, List, [], ◌∷◌, ◌++◌, length, length-append, length-drop, get_or, take, drop, set, sym, refl, ap, ◌∙◌, pow-suc, add-one, arith, drop-drop, drop-set-lt, take-suc-set}
use Rattle.std.proofs.Math.Seq.{drop-append_seam}
use Rattle.std.proofs.lemmas.List.{get_or-drop, get_or_append_left}
use Rattle.command.specs.Digits.{digit_of, hex_of, byte_of, bytes_up_to}

pub hex_more : (word : List ℕ) (n : ℕ) → hex_of word (n + 1) ≡ 16 * hex_of word n + digit_of (get_or word n 0)
unfolding hex_of
hex_more word n = ap (hex_of word) (add-one n)

pub bytes_more : (word : List ℕ) (n : ℕ) → bytes_up_to word (n + 1) ≡ bytes_up_to word n ++ (byte_of word n ∷ [])
unfolding bytes_up_to
bytes_more word n = ap (bytes_up_to word) (add-one n)

pub hex_none : (word : List ℕ) → hex_of word 0 ≡ 0
unfolding hex_of
hex_none word = refl

pub bytes_none : (word : List ℕ) → bytes_up_to word 0 ≡ []
unfolding bytes_up_to
bytes_none word = refl

-- one digit more
pub hex_small : (v d n : ℕ) → v < 16 ^ n → d < 16 → 16 * v + d < 16 ^ (n + 1)
hex_small v d n h l =
    let e : 16 ^ (n + 1) ≡ 16 ^ n * 16 = ap (λ (k : ℕ). 16 ^ k) (add-one n) ∙ pow-suc 16 n in
    omega arith

-- one byte more is written
pub put_more : (word b : List ℕ) (n m i v : ℕ) → m ≡ n + 1 → i ≡ n → n < length b → v ≡ byte_of word n → take n b ≡ bytes_up_to word n
    → take m (set b i v) ≡ bytes_up_to word m
put_more word b n m i v em ei inside ev h =
    ap (λ (k : ℕ). take k (set b i v)) em ∙ ap (λ (k : ℕ). take (n + 1) (set b k v)) ei ∙ ap (λ (k : ℕ). take k (set b n v)) (add-one n) ∙ take-suc-set b n v inside
    ∙ ap (λ (xs : List ℕ). xs ++ (v ∷ [])) h ∙ ap (λ (w : ℕ). bytes_up_to word n ++ (w ∷ [])) ev ∙ sym (bytes_more word n) ∙ ap (bytes_up_to word) (sym em)

-- it spares what is behind it
pub spared_more : (b b₀ : List ℕ) (n m i v : ℕ) → m ≡ n + 1 → i ≡ n → drop n b ≡ drop n b₀ → drop m (set b i v) ≡ drop m b₀
spared_more b b₀ n m i v em ei e =
    drop-set-lt m b i v (omega arith) ∙ ap (λ (k : ℕ). drop k b) em ∙ sym (drop-drop 1 n b) ∙ ap (drop 1) e ∙ drop-drop 1 n b₀ ∙ ap (λ (k : ℕ). drop k b₀) (sym em)

-- two digits of a word that lie before the rest of it
pub record Paired (word pair rest : List ℕ) (i : ℕ) : Type 0 where
  pub byte : 16 * digit_of (get_or pair 0 0) + digit_of (get_or pair 1 0) ≡ byte_of word i
  pub rest_of : rest ≡ drop (2 * (i + 1)) word
  pub within : 2 * (i + 1) ≤ length word

pub paired : (word pair rest : List ℕ) (i : ℕ) → drop (2 * i) word ≡ pair ++ rest → length pair ≡ 2 → 2 * i ≤ length word → Paired word pair rest i
paired word pair rest i e l w =
    let at : (k : ℕ) → k < 2 → get_or pair k 0 ≡ get_or word (2 * i + k) 0 =
    λ k h. sym (get_or_append_left pair rest 0 k (omega arith)) ∙ ap (λ (z : List ℕ). get_or z k 0) (sym e) ∙ get_or-drop (2 * i) word k 0 in
    let d : drop 2 (drop (2 * i) word) ≡ rest = ap (drop 2) e ∙ ap (λ (k : ℕ). drop k (pair ++ rest)) (sym l) ∙ drop-append_seam pair rest in
    let first : get_or pair 0 0 ≡ get_or word (2 * i) 0 = at 0 (omega arith) ∙ ap (λ (k : ℕ). get_or word k 0) (let z : 2 * i + 0 ≡ 2 * i = omega arith in z) in
    let second = at 1 (omega arith) in
    record {
      byte = ap (λ (z : ℕ). 16 * digit_of z + digit_of (get_or pair 1 0)) first ∙ ap (λ (z : ℕ). 16 * digit_of (get_or word (2 * i) 0) + digit_of z) second;
      rest_of = sym d ∙ drop-drop 2 (2 * i) word ∙ ap (λ (k : ℕ). drop k word) (let z : 2 * i + 2 ≡ 2 * (i + 1) = omega arith in z);
      within = omega (arith, ap length e, length-append pair rest, length-drop (2 * i) word);
    }

-- Laws of numbers as bytes, each over the width and the order.
--     value-lowBytes, lowBytes-value   a number's bytes, and the number of some bytes
--     number-bytesOf   a number that fits is read back from its bytes
--     low_parts, low-split   the bytes of a number of two parts
--     number-placed    the number of the bytes at a place
--     number_same      the number at a place goes by its bytes alone
use Prim.Native.Nat.{ℕ, zero, suc, ◌+◌, ◌*◌, ◌/◌, ◌%◌, ◌^◌, ◌≤◌, ◌<◌}
use mathlib.Core.List.{List, [], ◌∷◌, ◌++◌, reverse, reverse_aux, reverse-append, reverse-reverse}
use mathlib.Core.Path.{◌≡◌, refl, sym, ap, ◌∙◌, subst}
use native.Mathlib.Nat.{pow-suc, zero-add, add-zero, suc-add, add-mul, mul_assoc, add_assoc, not-suc-le-zero, le_of_suc-le-suc, div-add-mod', mod-lt, div-lt_iff_lt-mul, mul-add-mod_self_right, mul-add-div_right}
use native.Mathlib.Omega.{arith}
use lib.Dec.{lit<}
use lib.ListN.{length, get_or, take, drop, length-reverse}
use lib.Seq.{drop-drop, get_or-drop}
use Rattle.std.specs.Int.{w16, w32, w64, to_le_bytes}
use Rattle.slices.specs.Lists.{Every}
use Rattle.words.specs.Bytes.{low_bytes, value, ordered, bytes_of, number, front, number_at}
use Rattle.words.specs.declared.Order.TheVariants.{Little, Big}
use Rattle.words.specs.declared.Order.{Order}

-- ## Bytes of a number, and back

abbrev pub Byte : ℕ → Type 0
Byte b = b < 256

value-low_bytes : (w x : ℕ) → x < 256 ^ w → value (low_bytes w x) ≡ x
value-low_bytes zero x h = omega arith
value-low_bytes (suc w) x h =
    let high : x / 256 < 256 ^ w = (div-lt_iff_lt-mul (lit< tt)).1 (rw (pow-suc 256 w) at h) in
    ap (λ (n : ℕ). n * 256 + x % 256) (value-low_bytes w (x / 256) high) ∙ div-add-mod' x 256

pub low_bytes-value : (l : List ℕ) → Every Byte l → low_bytes (length l) (value l) ≡ l
low_bytes-value [] e = refl
low_bytes-value (b ∷ l) (small, e) =
    let low : (value l * 256 + b) % 256 ≡ b = omega arith in
    let high : (value l * 256 + b) / 256 ≡ value l = omega arith in
    rw (low, high, low_bytes-value l e)

-- the bytes of a number of two parts, the low one's first
pub low_parts : (v w a b : ℕ) → a < 256 ^ v → low_bytes (v + w) (b * 256 ^ v + a) ≡ low_bytes v a ++ low_bytes w b
low_parts zero w a b h =
    let same : b * 256 ^ 0 + a ≡ b = omega arith in
    rw (zero-add w, same)
low_parts (suc v) w a b h =
    let high : a / 256 < 256 ^ v = (div-lt_iff_lt-mul (lit< tt)).1 (rw (pow-suc 256 v) at h) in
    let more : b * 256 ^ suc v + a ≡ b * 256 ^ v * 256 + a = rw (pow-suc 256 v, ← mul_assoc) in
    let low : (b * 256 ^ suc v + a) % 256 ≡ a % 256 = ap (λ (x : ℕ). x % 256) more ∙ mul-add-mod_self_right (b * 256 ^ v) 256 a in
    let rest : (b * 256 ^ suc v + a) / 256 ≡ b * 256 ^ v + a / 256 = ap (λ (x : ℕ). x / 256) more ∙ mul-add-div_right (lit< tt) (b * 256 ^ v) a in
    rw (suc-add v w, low, rest, low_parts v w (a / 256) b high)

-- those of one number, in two parts
pub low_split : (v w x : ℕ) → low_bytes (v + w) x ≡ low_bytes v (x % 256 ^ v) ++ low_bytes w (x / 256 ^ v)
low_split v w x =
    ap (low_bytes (v + w)) (sym (div-add-mod' x (256 ^ v))) ∙ low_parts v w (x % 256 ^ v) (x / 256 ^ v) (mod-lt x (above v))
  where
    above : (v : ℕ) → 0 < 256 ^ v
    above zero = omega arith
    above (suc v) = rw (pow-suc 256 v) (omega (arith, above v))

-- and the front of them
pub take_low : (n w x : ℕ) → n ≤ w → take n (low_bytes w x) ≡ low_bytes n x
take_low zero w x h = refl
take_low (suc n) zero x h = absurd (not-suc-le-zero h)
take_low (suc n) (suc w) x h = ap (λ (l : List ℕ). x % 256 ∷ l) (take_low n w (x / 256) (le_of_suc-le-suc h))

ordered_twice : (o : Order) (bs : List ℕ) → ordered o (ordered o bs) ≡ bs
ordered_twice Little bs = refl
ordered_twice Big bs = reverse-reverse bs

pub number-bytes_of : (o : Order) (w x : ℕ) → x < 256 ^ w → number o (bytes_of o w x) ≡ x
number-bytes_of o w x h = ap value (ordered_twice o (low_bytes w x)) ∙ value-low_bytes w x h

-- ## A number turned: the one that its low bytes are in an order

bytes_low : (w x : ℕ) → Every Byte (low_bytes w x)
bytes_low zero x = tt
bytes_low (suc w) x = (omega arith, bytes_low w (x / 256))

pub length_low : (w x : ℕ) → length (low_bytes w x) ≡ w
length_low zero x = refl
length_low (suc w) x = ap suc (length_low w (x / 256))

bytes_turned_over : (l r : List ℕ) → Every Byte l → Every Byte r → Every Byte (reverse_aux l r)
bytes_turned_over [] r e f = f
bytes_turned_over (b ∷ l) r (small, e) f = bytes_turned_over l (b ∷ r) e (small, f)

bytes_ordered : (o : Order) (w x : ℕ) → Every Byte (bytes_of o w x) × (length (bytes_of o w x) ≡ w)
bytes_ordered Little w x = (bytes_low w x, length_low w x)
bytes_ordered Big w x = (bytes_turned_over (low_bytes w x) [] (bytes_low w x) tt, length-reverse (low_bytes w x) ∙ length_low w x)

-- its own bytes are the other's in the order
pub bytes_turned : (o : Order) (w x y : ℕ) → y ≡ number o (low_bytes w x) → low_bytes w y ≡ bytes_of o w x
bytes_turned o w x y is_y =
    let (each, long) = bytes_ordered o w x in
    ap (low_bytes w) is_y ∙ subst (λ (n : ℕ). low_bytes n (value (bytes_of o w x)) ≡ bytes_of o w x) long (low_bytes-value (bytes_of o w x) each)

-- that of the bytes of which a number is made, the lowest first
of_turned : (o : Order) (l : List ℕ) (x r : ℕ) → Every Byte l → x ≡ value l → r ≡ number o (low_bytes (length l) x) → r ≡ number o l
of_turned o l x r each is_x is_r = is_r ∙ ap (λ (n : ℕ). number o (low_bytes (length l) n)) is_x ∙ ap (number o) (low_bytes-value l each)

pub turned_little : {o : Order} (w x : ℕ) → x < 256 ^ w → o ≡ Little → x ≡ number o (low_bytes w x)
turned_little w x h e = sym (ap (λ (p : Order). number p (low_bytes w x)) e ∙ value-low_bytes w x h)

pub turned_big2 : {o : Order} (x : ℕ) → o ≡ Big → x % 256 * 256 + x / 256 % 256 ≡ number o (low_bytes 2 x)
turned_big2 x e = sym (rw e (omega arith))

pub turned_big4 : {o : Order} (x a b c d : ℕ) → a ≡ x % 256 → b ≡ x / 256 % 256 → c ≡ x / 256 / 256 % 256 → d ≡ x / 256 / 256 / 256 % 256
    → o ≡ Big → ((a * 256 + b) * 256 + c) * 256 + d ≡ number o (low_bytes 4 x)
turned_big4 x a b c d is_a is_b is_c is_d e = sym (rw (e, ← is_a, ← is_b, ← is_c, ← is_d) (omega arith))

value-append : (a b : List ℕ) → value (a ++ b) ≡ value b * 256 ^ length a + value a
value-append [] b = omega arith
value-append (x ∷ a) b =
    rw (value-append a b, pow-suc 256 (length a))
    (ap (λ (n : ℕ). n + x) (add-mul (value b * 256 ^ length a) (value a) 256)
    ∙ rw (mul_assoc (value b) (256 ^ length a) 256) (add_assoc (value b * (256 ^ length a * 256)) (value a * 256) x))

pub turned_big8 : {o : Order} (x low high : ℕ) → low ≡ number Big (low_bytes 4 (x % 4294967296)) → high ≡ number Big (low_bytes 4 (x / 4294967296))
    → o ≡ Big → low * 4294967296 + high ≡ number o (low_bytes 8 x)
turned_big8 x low high is_low is_high e =
    let A : List ℕ = low_bytes 4 (x % 4294967296) in
    let B : List ℕ = low_bytes 4 (x / 4294967296) in
    let whole : low_bytes 8 x ≡ A ++ B = low_split 4 4 x in
    let long : length (reverse B) ≡ 4 = length-reverse B ∙ length_low 4 (x / 4294967296) in
    sym (ap (λ (p : Order). number p (low_bytes 8 x)) e
    ∙ ap (number Big) whole
    ∙ ap value (reverse-append A B)
    ∙ value-append (reverse B) (reverse A)
    ∙ λ i. sym is_low i * 256 ^ long i + sym is_high i)

-- ## Of bytes that are given

pub two_given : (o : Order) (a b x r : ℕ) → a < 256 → b < 256 → x ≡ b * 256 + a → r ≡ number o (low_bytes 2 x) → r ≡ number o (a ∷ b ∷ [])
two_given o a b x r p q is_x = of_turned o (a ∷ b ∷ []) x r (p, (q, tt)) (omega arith)

pub four_given : (o : Order) (a b c d x r : ℕ) → a < 256 → b < 256 → c < 256 → d < 256 → x ≡ value (a ∷ b ∷ c ∷ d ∷ []) → r ≡ number o (low_bytes 4 x)
    → r ≡ number o (a ∷ b ∷ c ∷ d ∷ [])
four_given o a b c d x r p q s t = of_turned o (a ∷ b ∷ c ∷ d ∷ []) x r (p, (q, (s, (t, tt))))

pub eight_given : (o : Order) (a b c d e f g h low high r : ℕ) → a < 256 → b < 256 → c < 256 → d < 256 → e < 256 → f < 256 → g < 256 → h < 256
    → low ≡ value (a ∷ b ∷ c ∷ d ∷ []) → high ≡ value (e ∷ f ∷ g ∷ h ∷ []) → r ≡ number o (low_bytes 8 (high * 4294967296 + low))
    → r ≡ number o (a ∷ b ∷ c ∷ d ∷ e ∷ f ∷ g ∷ h ∷ [])
eight_given o a b c d e f g h low high r p q s t u v w y is_low is_high =
    of_turned o (a ∷ b ∷ c ∷ d ∷ e ∷ f ∷ g ∷ h ∷ []) (high * 4294967296 + low) r (p, (q, (s, (t, (u, (v, (w, (y, tt))))))))
    (rw (is_low, is_high) (sym (value-append (a ∷ b ∷ c ∷ d ∷ []) (e ∷ f ∷ g ∷ h ∷ []))))

-- ## As the library gives them

pub low_le2 : (x : ℕ) → to_le_bytes w16 x ≡ low_bytes 2 x
low_le2 x = grind arith

pub low_le4 : (x : ℕ) → to_le_bytes w32 x ≡ low_bytes 4 x
low_le4 x = grind arith

pub low_le8 : (x : ℕ) → to_le_bytes w64 x ≡ low_bytes 8 x
low_le8 x = grind arith

-- ## Bytes at a place

-- the w bytes from a place on
abbrev pub placed : ℕ → List ℕ → ℕ → List ℕ
placed zero s at = []
placed (suc w) s at = get_or s at 0 ∷ placed w s (at + 1)

front_placed : (w : ℕ) (s : List ℕ) (at : ℕ) → placed w s at ≡ front w (drop at s)
front_placed zero s at = refl
front_placed (suc w) s at = rw (get_or-drop at s 0 0, add-zero at, drop-drop 1 at s) (ap (λ (bs : List ℕ). get_or s at 0 ∷ bs) (front_placed w s (at + 1)))

pub number_placed : (o : Order) (w : ℕ) (s : List ℕ) (at : ℕ) → number o (placed w s at) ≡ number_at o w s at
number_placed o w s at = ap (number o) (front_placed w s at)

-- of what stands from a place on
pub number_tail : (o : Order) (w : ℕ) (s t l : List ℕ) (at r : ℕ) → t ≡ drop at s → l ≡ placed w t 0 → r ≡ number o l → r ≡ number_at o w s at
number_tail o w s t l at r is_t is_l is_r = is_r ∙ ap (number o) is_l ∙ number_placed o w t 0 ∙ ap (λ (u : List ℕ). number o (front w u)) is_t

pub eight_tail : (o : Order) (s t : List ℕ) (at a b c d e f g h r : ℕ) → t ≡ drop at s
    → a ≡ get_or t 0 0 → b ≡ get_or t 1 0 → c ≡ get_or t 2 0 → d ≡ get_or t 3 0 → e ≡ get_or t 4 0 → f ≡ get_or t 5 0 → g ≡ get_or t 6 0 → h ≡ get_or t 7 0
    → r ≡ number o (a ∷ b ∷ c ∷ d ∷ e ∷ f ∷ g ∷ h ∷ []) → r ≡ number_at o 8 s at
eight_tail o s t at a b c d e f g h r is_t is_a is_b is_c is_d is_e is_f is_g is_h =
    number_tail o 8 s t (a ∷ b ∷ c ∷ d ∷ e ∷ f ∷ g ∷ h ∷ []) at r is_t (λ i. is_a i ∷ is_b i ∷ is_c i ∷ is_d i ∷ is_e i ∷ is_f i ∷ is_g i ∷ is_h i ∷ [])

-- ## In two lists

module _ (s t : List ℕ) where
  -- the w bytes at a place, each the same in both
  abbrev pub SameBytes : ℕ → ℕ → Type 0
  SameBytes zero at = Unit {0}
  SameBytes (suc w) at = (get_or s at 0 ≡ get_or t at 0) × SameBytes w (at + 1)

  front_same : (w at : ℕ) → SameBytes w at → front w (drop at s) ≡ front w (drop at t)
  front_same zero at same = refl
  front_same (suc w) at (first, rest) =
      rw (get_or-drop at s 0 0, get_or-drop at t 0 0, add-zero at, first, drop-drop 1 at s, drop-drop 1 at t, front_same w (at + 1) rest)

  pub number_same : (o : Order) (w at : ℕ) → SameBytes w at → number_at o w s at ≡ number_at o w t at
  number_same o w at same = ap (number o) (front_same w at same)

-- ## Bounds

value-below : (l : List ℕ) → Every Byte l → value l < 256 ^ length l
value-below [] e = omega arith
value-below (b ∷ l) (small, e) = rw (pow-suc 256 (length l)) (omega (arith, value-below l e))

pub bytes_drop : (n : ℕ) (s : List ℕ) → Every Byte s → Every Byte (drop n s)
bytes_drop zero s e = e
bytes_drop (suc n) [] e = tt
bytes_drop (suc n) (b ∷ s) (small, e) = bytes_drop n s e

pub byte_at : (s : List ℕ) (at : ℕ) → Every Byte s → get_or s at 0 < 256
byte_at [] at e = omega arith
byte_at (b ∷ s) zero (small, e) = small
byte_at (b ∷ s) (suc at) (small, e) = byte_at s at e

bytes_front : (w : ℕ) (s : List ℕ) → Every Byte s → Every Byte (front w s)
bytes_front zero s e = tt
bytes_front (suc w) s e = (byte_at s 0 e, bytes_front w (drop 1 s) (bytes_drop 1 s e))

length_front : (w : ℕ) (s : List ℕ) → length (front w s) ≡ w
length_front zero s = refl
length_front (suc w) s = ap suc (length_front w (drop 1 s))

number-below : (o : Order) (l : List ℕ) → Every Byte l → number o l < 256 ^ length l
number-below Little l e = value-below l e
number-below Big l e = subst (λ (n : ℕ). value (reverse l) < 256 ^ n) (length-reverse l) (value-below (reverse l) (bytes_turned_over l [] e tt))

-- a number that is read fits its width
pub number_fits : (o : Order) (w : ℕ) (s : List ℕ) (at : ℕ) → Every Byte s → number_at o w s at < 256 ^ w
number_fits o w s at e =
    subst (λ (n : ℕ). number_at o w s at < 256 ^ n) (length_front w (drop at s)) (number-below o (front w (drop at s)) (bytes_front w (drop at s) (bytes_drop at s e)))

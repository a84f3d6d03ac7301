-- Laws of kept, counted, flattened, stored and summed lists; most say what a turn of a loop adds.
use Prim.Native.Nat.{ℕ, zero, suc, ◌+◌, ◌-◌, ◌*◌, ◌≤◌, ◌<◌, min}
use mathlib.Core.Bool.{Bool, true, false, cond}
use mathlib.Core.List.{List, [], ◌∷◌, ◌++◌, map, append_assoc, append-nil}
use mathlib.Core.Path.{◌≡◌, refl, sym, ap, ◌∙◌, subst, subst⁻¹}
use native.Mathlib.Nat.{zero-add, zero-min, min-zero, suc-min-suc, mul-zero, mul-suc, add_comm, mul-add, mul-one, add-zero, add_assoc, sub_self, not-suc-le-zero, le_of_suc-le-suc}
use native.Mathlib.Numerals.{add-one}
use native.Mathlib.Omega.{arith}
use lib.Dec.{leb}
use lib.ListN.{length, get_or, take, drop, set, length-append, length-take, length-drop, length-replicate, drop_of_length-le, take-append-drop, replicate, replicate-append-replicate, get_or-append}
use lib.Seq.{get_or-append_seam, take-append-le, take-append-add, take-suc, drop-cons, get_or-take, drop-append-le, drop-append-add, drop-drop, take_at, length-take-le, paste, take_all, set_split, set-append_seam, append_snoc}
use borrow.Author.Tests.{le-leb, lt-leb, leb-true, leb-false}
use Rattle.slices.specs.Lists.{keep, up_to, Every, flat, fits, stored, ended, sum}

-- ## A count above the length

module _ {A : Type 0} where
  pub take_min : (n : ℕ) (l : List A) → take (min n (length l)) l ≡ take n l
  take_min zero l = rw zero-min
  take_min (suc n) [] = rw min-zero
  take_min (suc n) (x ∷ xs) = rw suc-min-suc (ap (λ (t : List A). x ∷ t) (take_min n xs))

-- ## A part that goes on to the end

pub part_end : (s : List ℕ) (at : ℕ) → take (length s - at) (drop at s) ≡ drop at s
part_end s at = take_all (length s - at) (drop at s) (simp length-drop (omega arith))

-- ## Kept

module _ {A : Type 0} (f : A → Bool) where
  pub keep_append : (xs ys : List A) → keep f (xs ++ ys) ≡ keep f xs ++ keep f ys
  keep_append [] ys = refl
  keep_append (x ∷ xs) ys = rw (keep_append xs ys) (kept (f x))
    where
      kept : (b : Bool) → cond b (x ∷ (keep f xs ++ keep f ys)) (keep f xs ++ keep f ys) ≡ cond b (x ∷ keep f xs) (keep f xs) ++ keep f ys
      kept true = refl
      kept false = refl

  pub length-keep : (l : List A) → length (keep f l) ≤ length l
  length-keep [] = omega arith
  length-keep (x ∷ xs) = shorter (f x) (length-keep xs)
    where
      shorter : (b : Bool) → length (keep f xs) ≤ length xs → length (cond b (x ∷ keep f xs) (keep f xs)) ≤ suc (length xs)
      shorter true h = omega arith
      shorter false h = omega arith

-- ## The numbers below n, and what f makes of them

module _ {A B : Type 0} (f : A → B) where
  pub map-append : (xs ys : List A) → map f (xs ++ ys) ≡ map f xs ++ map f ys
  map-append [] ys = refl
  map-append (x ∷ xs) ys = ap (λ (l : List B). f x ∷ l) (map-append xs ys)

pub map-map : {A B C : Type 0} (f : A → B) (g : B → C) (l : List A) → map g (map f l) ≡ map (λ (x : A). g (f x)) l
map-map f g [] = refl
map-map {C = C} f g (x ∷ xs) = ap (λ (l : List C). g (f x) ∷ l) (map-map f g xs)

pub length-up_to : (n : ℕ) → length (up_to n) ≡ n
length-up_to zero = refl
length-up_to (suc n) = length-append (up_to n) (n ∷ []) ∙ omega (arith, length-up_to n)

pub up_to_at : (n k : ℕ) → k < n → get_or (up_to n) k 0 ≡ k
up_to_at zero k h = absurd (not-suc-le-zero h)
up_to_at (suc n) k h = by_test (leb (suc k) n) refl (up_to_at n k)
  where
    by_test : (t : Bool) → leb (suc k) n ≡ t → (k < n → get_or (up_to n) k 0 ≡ k) → get_or (up_to n ++ (n ∷ [])) k 0 ≡ k
    by_test true e before = get_or-append (up_to n) (n ∷ []) 0 k (omega (arith, leb-true (suc k) n e, length-up_to n)) ∙ before (leb-true (suc k) n e)
    by_test false e before =
        let last : k ≡ length (up_to n) = omega (arith, leb-false (suc k) n e, length-up_to n) in
        rw last (get_or-append_seam (up_to n) n [] 0 ∙ sym (length-up_to n))

module _ {A : Type 0} where
  -- what stands at each of the first n places
  pub map_places : (l : List A) (z : A) (n : ℕ) → n ≤ length l → map (λ (i : ℕ). get_or l i z) (up_to n) ≡ take n l
  map_places l z zero h = refl
  map_places l z (suc n) h =
      map-append (λ (i : ℕ). get_or l i z) (up_to n) (n ∷ []) ∙ rw (map_places l z n (omega arith)) (sym (take-suc l n z (omega arith)))

  pub map-up_to : (f g : ℕ → A) (n : ℕ) → ((i : ℕ) → i < n → f i ≡ g i) → map f (up_to n) ≡ map g (up_to n)
  map-up_to f g zero same = refl
  map-up_to f g (suc n) same =
      map-append f (up_to n) (n ∷ [])
      ∙ (λ i. map-up_to f g n (λ k h. same k (omega arith)) i ++ (same n (omega arith) i ∷ []))
      ∙ sym (map-append g (up_to n) (n ∷ []))

-- ## Every element

module _ {A : Type 0} (P : A → Type 0) where
  pub every_take : (n : ℕ) (l : List A) → Every P l → Every P (take n l)
  every_take zero l e = tt
  every_take (suc n) [] e = tt
  every_take (suc n) (x ∷ xs) (p, e) = (p, every_take n xs e)

  pub every_keep : (f : A → Bool) (l : List A) → Every P l → Every P (keep f l)
  every_keep f [] e = tt
  every_keep f (x ∷ xs) (p, e) = one (f x) (every_keep f xs e)
    where
      one : (b : Bool) → Every P (keep f xs) → Every P (cond b (x ∷ keep f xs) (keep f xs))
      one true r = (p, r)
      one false r = r

  pub every_at : (l : List A) (k : ℕ) (z : A) → k < length l → Every P l → P (get_or l k z)
  every_at [] k z h e = absurd (not-suc-le-zero h)
  every_at (x ∷ xs) zero z h (p, e) = p
  every_at (x ∷ xs) (suc k) z h (p, e) = every_at xs k z (le_of_suc-le-suc h) e

  pub every_set : (l : List A) (k : ℕ) (a : A) → Every P l → P a → Every P (set l k a)
  every_set [] k a e q = tt
  every_set (x ∷ xs) zero a (p, e) q = (q, e)
  every_set (x ∷ xs) (suc k) a (p, e) q = (p, every_set xs k a e q)

  every_append : (xs ys : List A) → Every P xs → Every P ys → Every P (xs ++ ys)
  every_append [] ys e q = q
  every_append (x ∷ xs) ys (p, e) q = (p, every_append xs ys e q)

  pub every_below : (f : ℕ → A) (n : ℕ) → ((i : ℕ) → i < n → P (f i)) → Every P (map f (up_to n))
  every_below f zero all = tt
  every_below f (suc n) all =
      subst⁻¹ (Every P) (map-append f (up_to n) (n ∷ []))
      (every_append (map f (up_to n)) (f n ∷ []) (every_below f n (λ i h. all i (omega arith))) (all n (omega arith), tt))

  pub every_so : (Q : A → Type 0) → ((x : A) → P x → Q x) → (l : List A) → Every P l → Every Q l
  every_so Q so [] e = tt
  every_so Q so (x ∷ xs) (p, e) = (so x p, every_so Q so xs e)

  pub every_same : (n : ℕ) (a : A) → P a → Every P (replicate n a)
  every_same zero a q = tt
  every_same (suc n) a q = (q, every_same n a q)

pub kept_all : {A : Type 0} (f : A → Bool) (l : List A) → Every (λ (x : A). f x ≡ true) (keep f l)
kept_all f [] = tt
kept_all {A} f (x ∷ xs) = one (f x) refl (kept_all f xs)
  where
    one : (b : Bool) → f x ≡ b → Every (λ (y : A). f y ≡ true) (keep f xs) → Every (λ (y : A). f y ≡ true) (cond b (x ∷ keep f xs) (keep f xs))
    one true e r = (e, r)
    one false e r = r

-- ## Flattened

module _ {A B : Type 0} (f : A → List B) where
  pub flat_append : (xs ys : List A) → flat f (xs ++ ys) ≡ flat f xs ++ flat f ys
  flat_append [] ys = refl
  flat_append (x ∷ xs) ys = ap (λ (l : List B). f x ++ l) (flat_append xs ys) ∙ sym (append_assoc (f x) (flat f xs) (flat f ys))

  flat_more : (l : List A) (i : ℕ) (d : A) → i < length l → flat f (take (i + 1) l) ≡ flat f (take i l) ++ f (get_or l i d)
  flat_more l i d h = rw (add-one, take-suc l i d h, flat_append (take i l) (get_or l i d ∷ []), append-nil)

  -- each made w long
  pub length-flat : (w : ℕ) → ((x : A) → length (f x) ≡ w) → (l : List A) → length (flat f l) ≡ w * length l
  length-flat w each [] = sym (mul-zero w)
  length-flat w each (x ∷ xs) = rw (length-append, each x, length-flat w each xs, mul-suc w (length xs)) (add_comm w (w * length xs))

  module _ (w : ℕ) (each : (x : A) → length (f x) ≡ w) where
    -- what follows place k
    pub after : (l : List A) (k : ℕ) (r : List B) → List B
    after [] k r = r
    after (x ∷ xs) zero r = flat f xs ++ r
    after (x ∷ xs) (suc k) r = after xs k r

    pub flat_at : (l : List A) (k : ℕ) (z : A) (r : List B) → k < length l → drop (w * k) (flat f l ++ r) ≡ f (get_or l k z) ++ after l k r
    unfolding after
    flat_at [] k z r h = absurd (not-suc-le-zero h)
    flat_at (x ∷ xs) zero z r h = rw mul-zero (append_assoc (f x) (flat f xs) r)
    flat_at (x ∷ xs) (suc k) z r h =
        let skip : drop (w + w * k) (f x ++ flat f xs ++ r) ≡ drop (w * k) (flat f xs ++ r) =
        subst (λ (n : ℕ). drop (n + w * k) (f x ++ flat f xs ++ r) ≡ drop (w * k) (flat f xs ++ r)) (each x)
        (rw append_assoc (drop-append-add (f x) (flat f xs ++ r) (w * k))) in
        rw (mul-suc w k, add_comm (w * k) w) skip ∙ flat_at xs k z r (le_of_suc-le-suc h)

    -- its front, cut in place k
    pub flat_cut : (l : List A) (k r : ℕ) (z : A) → k < length l → r ≤ w → take (w * k + r) (flat f l) ≡ flat f (take k l) ++ take r (f (get_or l k z))
    flat_cut [] k r z h less = absurd (not-suc-le-zero h)
    flat_cut (x ∷ xs) zero r z h less = rw (mul-zero w, zero-add r) (take-append-le r (f x) (flat f xs) (rw (each x) less))
    flat_cut (x ∷ xs) (suc k) r z h less =
        let more : w * suc k + r ≡ length (f x) + (w * k + r) = rw (each x, mul-suc w k) (omega arith) in
        ap (λ (n : ℕ). take n (f x ++ flat f xs)) more
        ∙ take-append-add (f x) (flat f xs) (w * k + r)
        ∙ ap (λ (l : List B). f x ++ l) (flat_cut xs k r z (le_of_suc-le-suc h) less)
        ∙ sym (append_assoc (f x) (flat f (take k xs)) (take r (f (get_or xs k z))))

-- ## Stored at a place

pub fits_not : (n at room : ℕ) → room < n → false ≡ fits n at room
fits_not n at room h = sym (lt-leb (at + n) room (omega arith))

pub fits_rest : (n at room : ℕ) → n ≤ room → leb at (room - n) ≡ fits n at room
fits_rest n at room h = by_test (leb at (room - n)) refl
  where
    by_test : (t : Bool) → leb at (room - n) ≡ t → leb at (room - n) ≡ fits n at room
    by_test true e = e ∙ sym (le-leb (at + n) room (omega (arith, leb-true at (room - n) e)))
    by_test false e = e ∙ sym (lt-leb (at + n) room (omega (arith, leb-false at (room - n) e)))

pub fits_there : (n at room : ℕ) (t : Bool) → t ≡ fits n at room → t ≡ true → at + n ≤ room
fits_there n at room t is_t so = leb-true (at + n) room (sym is_t ∙ so)

module _ {A : Type 0} (d b : List A) where
  pub stored-front : length b ≤ length d → stored d 0 b ≡ b ++ drop (length b) d
  stored-front h = rw (zero-add (length b), le-leb _ _ h)

module _ {A : Type 0} (d b : List A) (at : ℕ) where
  stored-fits : at + length b ≤ length d → stored d at b ≡ take at d ++ b ++ drop (at + length b) d
  stored-fits h = rw (le-leb _ _ h)

  stored_paste : at + length b ≤ length d → stored d at b ≡ paste d at b (length b)
  stored_paste h = stored-fits h ∙ sym (ap (λ (l : List A). (take at d ++ l) ++ drop (at + length b) d) (take_all (length b) b (omega arith)))

  module _ (t : Bool) (is_t : t ≡ fits (length b) at (length d)) where
    pub room_there : t ≡ true → at + length b ≤ length d
    room_there = fits_there (length b) at (length d) t is_t

    pub stored_yes : t ≡ true → (r : List A) → r ≡ paste d at b (length b) → r ≡ stored d at b
    stored_yes y r e = e ∙ sym (stored_paste (room_there y))

    pub stored_no : t ≡ false → d ≡ stored d at b
    stored_no n = sym (rw (sym is_t ∙ n))

    pub ended_yes : t ≡ true → at + length b ≡ ended d at b
    ended_yes y = sym (rw (sym is_t ∙ y))

    pub ended_no : t ≡ false → at ≡ ended d at b
    ended_no n = sym (rw (sym is_t ∙ n))

  pub length-stored : length (stored d at b) ≡ length d
  length-stored = by_test (fits (length b) at (length d)) refl
    where
      by_test : (t : Bool) → fits (length b) at (length d) ≡ t → length (cond t (take at d ++ b ++ drop (at + length b) d) d) ≡ length d
      by_test true e =
          let room : at + length b ≤ length d = leb-true (at + length b) (length d) e in
          simp (length-append, length-take, length-drop) (omega arith)
      by_test false e = refl

-- ## Laid over the front

module _ {A : Type 0} where
  drop-laid : (P d : List A) (n k : ℕ) → length P ≡ n → drop (n + k) (P ++ drop n d) ≡ drop (n + k) d
  drop-laid P d n k e = subst (λ (m : ℕ). drop (m + k) (P ++ drop n d) ≡ drop (n + k) d) e (drop-append-add P (drop n d) k ∙ drop-drop k n d)

  -- P lies over the front of d, and b is stored right after it
  lay : (P b d : List A) (n k : ℕ) → length P ≡ n → take n (P ++ drop n d) ++ b ++ drop (n + k) (P ++ drop n d) ≡ P ++ b ++ drop (n + k) d
  lay P b d n k e = rw (take_at P (drop n d) n e, drop-laid P d n k e)

-- ## Stored one after another

module _ {A : Type 0} (d : List A) (at : ℕ) where
  pub stored_none : stored d at [] ≡ d
  stored_none = by_test (fits 0 at (length d))
    where
      by_test : (t : Bool) → cond t (take at d ++ [] ++ drop (at + 0) d) d ≡ d
      by_test true = rw (append-nil, add-zero) (take-append-drop at d)
      by_test false = refl

  pub stored_more : (a b : List A) → at + length (a ++ b) ≤ length d → stored (stored d at a) (at + length a) b ≡ stored d at (a ++ b)
  stored_more a b h =
      let P : List A = take at d ++ a in
      let front : length P ≡ at + length a = length-append (take at d) a ∙ rw (length-take-le at d (omega arith)) in
      let both : length (a ++ b) ≡ length a + length b = length-append a b in
      let room : at + length a + length b ≤ length (P ++ drop (at + length a) d) =
      rw (length-append P (drop (at + length a) d), front, length-drop) (omega arith) in
      rw (stored-fits d a at (omega arith), stored-fits d (a ++ b) at h, stored-fits (P ++ drop (at + length a) d) b (at + length a) room, both, ← add_assoc)
      (lay P b d (at + length a) (length b) front ∙ simp append_assoc)

-- one element, set
pub stored-set : {A : Type 0} (d : List A) (i : ℕ) (b : A) → i < length d → set d i b ≡ stored d i (b ∷ [])
stored-set d i b h = set_split d i b h ∙ rw (le-leb (i + 1) (length d) (omega arith), add-one i) (sym (append_assoc (take i d) (b ∷ []) (drop (suc i) d)))

-- ## Stored as far as there is room

pub cut_none : (d b : List ℕ) (at : ℕ) → length d ≤ at → d ≡ stored d at (take (length d - at) b)
cut_none d b at past =
    let none : length d - at ≡ 0 = omega arith in
    sym (rw none (stored_none d at))

-- one after another, each with as much as there is room for
pub cut_more : (d : List ℕ) (at : ℕ) (a b x y : List ℕ) → x ≡ stored d at (take (length d - at) a)
    → y ≡ stored x (at + length a) (take (length x - (at + length a)) b) → y ≡ stored d at (take (length d - at) (a ++ b))
cut_more d at a b x y is_x is_y = by_test (leb (at + length a) (length d)) refl
  where
    same : length x ≡ length d
    same = ap length is_x ∙ length-stored d (take (length d - at) a) at

    by_test : (t : Bool) → leb (at + length a) (length d) ≡ t → y ≡ stored d at (take (length d - at) (a ++ b))
    by_test true e =
        let room : at + length a ≤ length d = leb-true _ _ e in
        let r : ℕ = length d - (at + length a) in
        let whole : x ≡ stored d at a = is_x ∙ ap (stored d at) (take_all (length d - at) a (omega arith)) in
        let more : length d - at ≡ length a + r = omega arith in
        let cut : take (length d - at) (a ++ b) ≡ a ++ take r b = ap (λ (n : ℕ). take n (a ++ b)) more ∙ take-append-add a b r in
        let fits : at + length (a ++ take r b) ≤ length d = rw (length-append a (take r b), length-take r b) (omega arith) in
        is_y ∙ (λ i. stored (whole i) (at + length a) (take (same i - (at + length a)) b)) ∙ stored_more d at a (take r b) fits ∙ ap (stored d at) (sym cut)
    by_test false e =
        let past : length d < at + length a = leb-false _ _ e in
        let none : length x - (at + length a) ≡ 0 = omega (arith, same) in
        is_y ∙ rw none (stored_none x (at + length a)) ∙ is_x ∙ ap (stored d at) (sym (take-append-le (length d - at) a b (omega arith)))

-- ## Stored at the front of a part

-- the k elements from a place on, lent and put back
module _ {A : Type 0} (d b : List A) (at k : ℕ) (room : at + k ≤ length d) (short : length b ≤ k) where
  part_long : length (take k (drop at d)) ≡ k
  part_long = length-take-le k (drop at d) (simp length-drop (omega arith))

  tail_back : drop (length b) (take k (drop at d)) ++ drop k (drop at d) ≡ drop (at + length b) d
  tail_back =
      sym (drop-append-le (length b) (take k (drop at d)) (drop k (drop at d)) (rw part_long short))
      ∙ ap (drop (length b)) (take-append-drop k (drop at d))
      ∙ drop-drop (length b) at d

  pub part_stored : (y : List A) → y ≡ stored (take k (drop at d)) 0 b → take at d ++ (y ++ drop k (drop at d)) ≡ stored d at b
  part_stored y is_y =
      let front : y ≡ b ++ drop (length b) (take k (drop at d)) = is_y ∙ stored-front (take k (drop at d)) b (rw part_long short) in
      let behind : y ++ drop k (drop at d) ≡ b ++ drop (at + length b) d =
      ap (λ (l : List A). l ++ drop k (drop at d)) front ∙ append_assoc b _ _ ∙ ap (λ (l : List A). b ++ l) tail_back in
      ap (λ (l : List A). take at d ++ l) behind ∙ sym (append_assoc (take at d) b (drop (at + length b) d)) ∙ sym (stored-fits d b at (omega arith))

  pub part_ended : (r : ℕ) → r ≡ length b → at + r ≡ ended d at b
  part_ended r is_r = ap (λ (n : ℕ). at + n) is_r ∙ ended_yes d b at true (sym (le-leb (at + length b) (length d) (omega arith))) refl

-- what stands at the front of a list is itself
pub front-shown : {A : Type 0} (z b : List A) → length b ≤ length z → take (length b) (stored z 0 b) ≡ b
front-shown z b h = rw (stored-front z b h) (take_at b (drop (length b) z) (length b) refl)

-- a loop that stores zeros from a place on: none yet, and one more
pub zero_none : (d : List ℕ) (at : ℕ) → d ≡ stored d at (replicate (at - at) 0)
zero_none d at = sym (rw sub_self (stored_none d at))

pub zero_next : (d x : List ℕ) (at i : ℕ) → at ≤ i → i < length d → length x ≡ length d → x ≡ stored d at (replicate (i - at) 0)
    → set x i 0 ≡ stored d at (replicate (i + 1 - at) 0)
zero_next d x at i low less long is_x =
    let z : List ℕ = replicate (i - at) 0 in
    let place : i ≡ at + length z = omega (arith, length-replicate {A = ℕ} (i - at) 0) in
    let one_more : i + 1 - at ≡ i - at + 1 = omega arith in
    let more : z ++ (0 ∷ []) ≡ replicate (i + 1 - at) 0 = rw one_more (replicate-append-replicate (i - at) 1 0) in
    let room : at + length (z ++ (0 ∷ [])) ≤ length d = rw (more, length-replicate) (omega arith) in
    stored-set x i 0 (omega arith) ∙ (λ j. stored (is_x j) (place j) (0 ∷ [])) ∙ stored_more d at z (0 ∷ []) room ∙ ap (stored d at) more

-- zeros that would go on past the end are not stored
pub zero-past : (d : List ℕ) (at to : ℕ) → length d < to → d ≡ stored d at (replicate (to - at) 0)
zero-past d at to past = by_test (leb at to) refl
  where
    by_test : (t : Bool) → leb at to ≡ t → d ≡ stored d at (replicate (to - at) 0)
    by_test true e =
        let far : length d < at + length (replicate {A = ℕ} (to - at) 0) = rw length-replicate (omega (arith, leb-true at to e)) in
        sym (rw (lt-leb _ _ far))
    by_test false e =
        let none : to - at ≡ 0 = omega (arith, leb-false at to e) in
        sym (rw none (stored_none d at))

-- a loop that stores f of each element of es, of w each, side by side from a place on
pub stored_each : {A B : Type 0} (f : A → List B) (w : ℕ) → ((x : A) → length (f x) ≡ w) → (es : List A) (d x y : List B) (at k : ℕ) (z : A)
    → at + w * (k + 1) ≤ length d → k < length es → x ≡ stored d at (flat f (take k es)) → y ≡ stored x (at + w * k) (f (get_or es k z)) → y ≡ stored d at (flat f (take (k + 1) es))
stored_each {A} {B} f w each es d x y at k z room less is_x is_y =
    let F : List B = flat f (take k es) in
    let long : length F ≡ w * k = length-flat f w each (take k es) ∙ rw (length-take-le k es (omega arith)) in
    let more : at + w * (k + 1) ≡ at + (w * k + w) = rw (mul-add, mul-one) in
    let fits : at + length (F ++ f (get_or es k z)) ≤ length d = rw (length-append F (f (get_or es k z)), long, each (get_or es k z), ← more) room in
    is_y ∙ rw (is_x, ← long, flat_more f es k z less) (stored_more d at F (f (get_or es k z)) fits)

-- ## Filled up from the front

-- room for n: a list, then z in the other places
module _ {A : Type 0} (z : A) (n : ℕ) where
  abbrev pub padded : List A → List A
  padded l = l ++ replicate (n - length l) z

  pub padded_more : (l : List A) (b : A) → length l < n → set (padded l) (length l) b ≡ padded (l ++ (b ∷ []))
  padded_more l b h =
      let m : ℕ = n - (length l + 1) in
      let room : n - length l ≡ suc m = omega arith in
      let less : n - length (l ++ (b ∷ [])) ≡ m = simp length-append (omega arith) in
      rw (room, less) (set-append_seam l z (replicate m z) b ∙ sym (append_snoc l b (replicate m z)))

-- ## Summed

-- a loop over the first n of an array
module _ {A : Type 0} (f : A → ℕ) (l : List A) (n i : ℕ) where
  pub sum_next : (d : A) → i < n → n ≤ length l → sum f (drop i (take n l)) ≡ f (get_or l i d) + sum f (drop (i + 1) (take n l))
  sum_next d h fits =
      let inside : i < length (take n l) = simp length-take (omega arith) in
      rw (drop-cons (take n l) i d inside, add-one i, get_or-take n l i d h)

  pub sum_end : n ≤ i → sum f (drop i (take n l)) ≡ 0
  sum_end h =
      let past : length (take n l) ≤ i = simp length-take (omega arith) in
      rw (drop_of_length-le (take n l) past)

-- Spreading over any list of levels. Assumes nothing.
--     time ls ks   the time of the counts ks at the levels ls
--     held ls      the time written at all of them
--     Chain ls     each unit is longer than 0 and divides every larger one
--     drain ls     the time over the limits, were there no parts of units
--     room ls      the time that the limits have room for
use Rattle.std.proofs.Common.{◌≡◌, ℕ, zero, suc, ◌+◌, ◌-◌, ◌*◌, ◌/◌, ◌^◌, ◌<◌, ◌≤◌, List, [], ◌∷◌, ◌++◌, map, length, get_or, drop, set, sym, refl, ap, ◌∙◌, append_assoc, length-drop, inl, inr, mul-le-mul_right, mul_assoc, mul_comm, add-mul, le-div_iff_mul-le, div-mul-le_self, mul-div_cancel, arith}
use native.Mathlib.Nat.{mul-add-div_right, mul-sub}
use Rattle.std.specs.List.{AllByRecursion}
use Rattle.std.specs.Duration.{FitsDuration}
use Rattle.std.proofs.lemmas.Bool.{cases_lt}
use Rattle.std.proofs.lemmas.List.{drop-set, length-map, map-append}
use Rattle.std.proofs.Math.Seq.{drop-append_seam}
use Rattle.units.specs.Times.{time_at}
use Rattle.spreading.specs.Spreading.{Level, stays, left, kept}

abbrev pub time : List Level → List ℕ → ℕ
time ls ks = time_at (map (λ l. l.nanos) ls) ks

unfoldable pub held : List Level → ℕ
held [] = 0
held (l ∷ ls) = l.written + held ls

-- ---- what stays
stays_in : (l : Level) (came : ℕ) → stays l came * l.nanos ≤ l.written + came
stays_in l came =
    omega (arith, div-mul-le_self (l.written + came) l.nanos, mul-le-mul_right {m = stays l came} {n = (l.written + came) / l.nanos} l.nanos (omega arith))

pub balanced : (ls : List Level) → time ls (kept ls) + left ls ≡ held ls
unfolding kept left held
balanced [] = refl
balanced (l ∷ ls) = omega (arith, stays_in l (left ls), balanced ls)

pub lower : (ls : List Level) (k : ℕ) → time (drop k ls) (drop k (kept ls)) ≤ held (drop k ls)
unfolding kept left held
lower ls zero = omega (arith, balanced ls)
lower [] (suc k) = omega arith
lower (l ∷ ls) (suc k) = lower ls k

pub within : (ls : List Level) (j : ℕ) → get_or (kept ls) j 0 ≤ get_or (map (λ l. l.limit) ls) j 0
unfolding kept
within [] j = omega arith
within (l ∷ ls) zero = omega arith
within (l ∷ ls) (suc j) = within ls j

-- ---- nothing keeps more
abbrev pub Multiple : ℕ → ℕ → Type 0
Multiple n x = (q : ℕ) × (x ≡ q * n)

abbrev pub Chain : List Level → Type 0
Chain [] = Unit {0}
Chain (l ∷ ls) = (0 < l.nanos) × AllByRecursion (λ m. Multiple l.nanos m.nanos) ls × Chain ls

time_multiple : (n : ℕ) (ls : List Level) (ks : List ℕ) → AllByRecursion (λ m. Multiple n m.nanos) ls → Multiple n (time ls ks)
time_multiple n [] ks a = (0, omega arith)
time_multiple n (l ∷ ls) [] a = (0, omega arith)
time_multiple n (l ∷ ls) (k ∷ ks) a =
    let m = time_multiple n ls ks a.1 in
    (k * a.0.0 + m.0, omega (arith, m.1, ap (λ x. k * x) a.0.1, mul_assoc k a.0.0 n, add-mul (k * a.0.0) m.0 n))

-- a multiple of n within p * n + a is within p * n and the whole n's of a
floor : (m p n a : ℕ) → 0 < n → m * n ≤ p * n + a → m * n ≤ p * n + a / n * n
floor m p n a some h =
    let q : m ≤ (p * n + a) / n = (le-div_iff_mul-le some).1 h in
    let e : (p * n + a) / n ≡ p + a / n = mul-add-div_right some p a in
    omega (arith, mul-le-mul_right {m = m} {n = p + a / n} n (omega arith), add-mul p (a / n) n)

abbrev pub Within : List Level → List ℕ → Type 0
Within ls ks = (j : ℕ) → j < length ls → get_or ks j 0 ≤ get_or (map (λ l. l.limit) ls) j 0

-- Of all counts within the limits that raise no time, those that stay last longest.
most : (ls : List Level) (ks : List ℕ) → Chain ls → Within ls ks → ((k : ℕ) → time (drop k ls) (drop k ks) ≤ held (drop k ls)) → time ls ks ≤ time ls (kept ls)
unfolding kept left held
most [] ks c w r = omega arith
most (l ∷ ls) [] c w r = omega arith
most (l ∷ ls) (k ∷ ks) c w r =
    let n : ℕ = l.nanos in
    let more : time ls ks ≤ time ls (kept ls) = most ls ks c.2 (λ j h. w (suc j) (omega arith)) (λ j. r (suc j)) in
    let all : k * n + time ls ks ≤ l.written + held ls = r 0 in
    let m = time_multiple n ls ks c.1 in
    let p = time_multiple n ls (kept ls) c.1 in
    elim (cases_lt ((l.written + left ls) / n) l.limit) [
      | inl below ↦
          let e : stays l (left ls) ≡ (l.written + left ls) / n = omega arith in
          let h : (k + m.0) * n ≤ p.0 * n + (l.written + left ls) = omega (arith, add-mul k m.0 n, m.1, p.1, balanced ls) in
          omega (arith, floor (k + m.0) p.0 n (l.written + left ls) c.0 h, add-mul k m.0 n, m.1, p.1, ap (λ x. x * n) e)
      | inr above ↦
          let e : stays l (left ls) ≡ l.limit = omega arith in
          omega (arith, mul-le-mul_right {m = k} {n = l.limit} n (w 0 (omega arith)), ap (λ x. x * n) e)
    ]

pub best : (ls : List Level) (ks : List ℕ) → Chain ls → Within ls ks → time ls ks ≡ held ls → ((k : ℕ) → time (drop k ls) (drop k ks) ≤ held (drop k ls)) → left ls ≡ 0
best ls ks c w total r = omega (arith, most ls ks c w r, balanced ls)

-- ---- less time at each level
unfoldable drain : List Level → ℕ
drain [] = 0
drain (l ∷ ls) = l.written + drain ls - l.limit * l.nanos

drain_below : (ls : List Level) → drain ls ≤ left ls
unfolding drain left
drain_below [] = omega arith
drain_below (l ∷ ls) = omega (arith, drain_below ls, mul-le-mul_right {m = stays l (left ls)} {n = l.limit} l.nanos (omega arith))

-- no more time at each level, under the same limits
abbrev pub Under : List Level → List Level → Type 0
Under [] ms = Unit {0}
Under (l ∷ ls) [] = ⊥
Under (l ∷ ls) (m ∷ ms) = (l.written ≤ m.written) × (l.limit * l.nanos ≡ m.limit * m.nanos) × Under ls ms

drain_under : (ls ms : List Level) → Under ls ms → drain ls ≤ drain ms
unfolding drain
drain_under [] ms u = omega arith
drain_under (l ∷ ls) [] u = absurd u
drain_under (l ∷ ls) (m ∷ ms) u = omega (arith, drain_under ls ms u.2, u.0, u.1)

-- whole units at each level
abbrev pub Whole : List Level → Type 0
Whole ls = AllByRecursion (λ l. Multiple l.nanos l.written) ls

multiple_of : (n m x : ℕ) → Multiple n m → Multiple m x → Multiple n x
multiple_of n m x a b = (b.0 * a.0, omega (arith, b.1, ap (λ y. b.0 * y) a.1, mul_assoc b.0 a.0 n))

held_multiple : (n : ℕ) (ls : List Level) → Whole ls → AllByRecursion (λ m. Multiple n m.nanos) ls → Multiple n (held ls)
unfolding held
held_multiple n [] w a = (0, omega arith)
held_multiple n (l ∷ ls) w a =
    let x = multiple_of n l.nanos l.written a.0 w.0 in
    let y = held_multiple n ls w.1 a.1 in
    (x.0 + y.0, omega (arith, x.1, y.1, add-mul x.0 y.0 n))

left_multiple : (n : ℕ) (ls : List Level) → Whole ls → AllByRecursion (λ m. Multiple n m.nanos) ls → Multiple n (left ls)
left_multiple n ls w a =
    let h = held_multiple n ls w a in
    let k = time_multiple n ls (kept ls) a in
    (h.0 - k.0, omega (arith, h.1, k.1, balanced ls, mul-sub n h.0 k.0, mul_comm (h.0 - k.0) n, mul_comm h.0 n, mul_comm k.0 n))

-- with whole units everywhere nothing but the limits sends time on
drain_left : (ls : List Level) → Chain ls → Whole ls → left ls ≡ drain ls
unfolding left drain
drain_left [] c w = refl
drain_left (l ∷ ls) c w =
    let n : ℕ = l.nanos in
    let m = left_multiple n ls w.1 c.1 in
    let q : ℕ = w.0.0 + m.0 in
    let x : l.written + left ls ≡ q * n = omega (arith, w.0.1, m.1, add-mul w.0.0 m.0 n) in
    let d : (l.written + left ls) / n ≡ q = ap (λ y. y / n) x ∙ mul-div_cancel q c.0 in
    let i = drain_left ls c.2 w.1 in
    elim (cases_lt q l.limit) [
      | inl below ↦
          let e : stays l (left ls) ≡ q = omega arith in
          omega (arith, x, ap (λ y. y * n) e, mul-le-mul_right {m = q} {n = l.limit} n (omega arith))
      | inr above ↦
          let e : stays l (left ls) ≡ l.limit = omega arith in
          omega (arith, x, ap (λ y. y * n) e)
    ]

-- Where all time finds a place, so does less of it in whole units.
pub part : (ls ms : List Level) → Chain ls → Whole ls → Under ls ms → left ms ≡ 0 → left ls ≡ 0
part ls ms c w u z = omega (arith, drain_left ls c w, drain_under ls ms u, drain_below ms)

-- ---- from the last level to the first
-- One turn, at the level i below j: what it keeps and what it passes on are as defined.
pub turn : (ls : List Level) (l : Level) (xs : List ℕ) (i j came x : ℕ) → drop i ls ≡ l ∷ drop j ls → i + 1 ≡ j → j ≤ length xs → drop j xs ≡ kept (drop j ls) → came ≡ left (drop j ls) → x ≡ stays l came → (drop i (set xs i x) ≡ kept (drop i ls)) × (l.written + came - x * l.nanos ≡ left (drop i ls))
unfolding kept left
turn ls l xs i j came x at next long k c stay =
    let a = drop-set xs i x (omega arith) in
    let b = ap kept at in
    let d = ap left at in
    (cc, cc)

-- what is still to go, seen as levels, is the front of them: the last of it is the next level
pub next_level : {A : Type 0} (v : A → Level) (ts : List A) (t : A) (ls : List Level) → map v (ts ++ t ∷ []) ++ drop (length (ts ++ t ∷ [])) ls ≡ ls → (drop (length ts) ls ≡ v t ∷ drop (length (ts ++ t ∷ [])) ls) × (map v ts ++ drop (length ts) ls ≡ ls)
next_level v ts t ls e =
    let ms : List Level = drop (length (ts ++ t ∷ [])) ls in
    let whole : map v ts ++ v t ∷ ms ≡ ls = sym (append_assoc (map v ts) (v t ∷ []) ms) ∙ ap (λ ks. ks ++ ms) (sym (map-append v ts (t ∷ []))) ∙ e in
    let here : drop (length ts) ls ≡ v t ∷ ms = ap (drop (length ts)) (sym whole) ∙ ap (λ n. drop n (map v ts ++ v t ∷ ms)) (sym (length-map ts v)) ∙ drop-append_seam (map v ts) (v t ∷ ms) in
    (here, ap (λ ks. map v ts ++ ks) here ∙ whole)

-- ---- more time than any Duration
unfoldable pub room : List Level → ℕ
room [] = 0
room (l ∷ ls) = l.limit * l.nanos + room ls

-- no level takes more than its limit away, so the time at any of them is left over but for the room
past : (ls : List Level) (i : ℕ) (l : Level) (ms : List Level) → drop i ls ≡ l ∷ ms → l.written + left ms ≤ left ls + room ls
unfolding left room
past [] i l ms at = absurd (omega (arith, length-drop {A = Level} i [], ap length at))
past (k ∷ ks) zero l ms at =
    let first : k ≡ l = cc in
    let others : ks ≡ ms = cc in
    let time : l.written + left ms ≡ k.written + left ks = cc in
    omega (arith, mul-le-mul_right {m = stays k (left ks)} {n = k.limit} k.nanos (omega arith))
past (k ∷ ks) (suc i) l ms at =
    omega (arith, past ks i l ms at, mul-le-mul_right {m = stays k (left ks)} {n = k.limit} k.nanos (omega arith))

-- Where the time at a level is longer than any Duration, and the limits have room for less, some is left over.
pub too_long : (ls : List Level) (i : ℕ) (l : Level) (ms : List Level) (came : ℕ) → room ls < 2 ^ 64 * 1_000_000_000 → drop i ls ≡ l ∷ ms → came ≡ left ms → (FitsDuration (l.written + came) → ⊥) → left ls ≡ 0 → ⊥
too_long ls i l ms came little at c long none = omega (arith, past ls i l ms at)

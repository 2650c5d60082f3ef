-- The entries of a schedule of turns: each task has so many in a row, one task after the other.
use Rattle.std.proofs.Common.{◌≡◌, ◌<◌, ◌≤◌, ◌+◌, ◌-◌, ◌*◌, ◌/◌, ◌%◌, ℕ, zero, suc, ◌∷◌, ◌++◌, replicate, refl, sym, ap, ◌∙◌, arith}
use Rattle.std.proofs.Math.Nat.{suc-mod}
use Rattle.std.proofs.lemmas.Nat.{div-add-mod', div-mul-add}
use Rattle.ms_machine.specs.Crews.{turns_from}
use Rattle.ms_tasks.specs.refinement.Rows.{IsInTurn}

-- the rest of a turn: a is how many turns came before, b the place in it
pub turn_row : (q n a b m c : ℕ) → b + m ≤ q → turns_from q n (a * q + b) (m + c) ≡ replicate m (a % n) ++ turns_from q n (a * q + (b + m)) c
turn_row q n a b zero c within =
    let e : 0 + c ≡ c = omega arith in
    let f : b ≡ b + 0 = omega arith in
    ap (turns_from q n (a * q + b)) e ∙ ap (λ x. turns_from q n (a * q + x) c) f
turn_row q n a b (suc m) c within =
    let e : suc m + c ≡ suc (m + c) = omega arith in
    let f : suc (a * q + b) ≡ a * q + suc b = omega arith in
    let g : suc b + m ≡ b + suc m = omega arith in
    let lt : b < q = omega arith in
    ap (turns_from q n (a * q + b)) e
    ∙ (ap (λ x. (x % n) ∷ turns_from q n (suc (a * q + b)) (m + c)) (div-mul-add a q b lt)
    ∙ (ap (λ x. (a % n) ∷ turns_from q n x (m + c)) f
    ∙ (ap (λ l. (a % n) ∷ l) (turn_row q n a (suc b) m c (omega arith))
    ∙ ap (λ x. (a % n) ∷ (replicate m (a % n) ++ turns_from q n (a * q + x) c)) g)))

-- the task of the next turn
pub next_task : (n a k k' : ℕ) → k ≡ a % n → suc k % n ≡ k' → k' ≡ suc a % n
next_task n a k k' is next = sym next ∙ (ap (λ x. suc x % n) is ∙ sym (suc-mod a n))

-- those of a task that is alone
pub alone : (q n i most : ℕ) → n ≡ 1 → turns_from q n i most ≡ replicate most 0
alone q n i zero one = refl
alone q n i (suc most) one =
    let below : (i / q) % n < n = omega (arith, one) in
    let first : (i / q) % n ≡ 0 = omega (arith, one, below) in
    ap (λ k. k ∷ turns_from q n (suc i) most) first ∙ ap (λ ks. 0 ∷ ks) (alone q n (suc i) most one)

-- ---- places

pub place_at : (q n i : ℕ) → 0 < q → 0 < n → IsInTurn q n i ((i / q) % n) (q - i % q)
place_at q n i some tasks = record {
  turn = i / q;
  place = i % q;
  i_is = sym (div-add-mod' i q);
  k_is = refl;
  room_is = omega (arith, some);
  some = omega (arith, some);
  below = omega (arith, tasks);
}

-- behind what is left of the turn
pub next_place : (q n i j k k' room : ℕ) → 0 < q → 0 < n → j ≡ i + room → k' ≡ suc k % n → IsInTurn q n i k room → IsInTurn q n j k' q
next_place q n i j k k' room some tasks is next at =
    let i_is = at.i_is in
    let room_is = at.room_is in
    let product : suc at.turn * q ≡ at.turn * q + q = omega arith in
    record {
      turn = suc at.turn;
      place = 0;
      i_is = omega (arith, i_is, room_is, is, product);
      k_is = next_task n at.turn k k' at.k_is (sym next);
      room_is = omega arith;
      some = some;
      below = omega (arith, tasks, next);
    }

-- so many entries of it come first
pub row_first : (q n i k room row left : ℕ) → row ≤ room → row ≤ left → IsInTurn q n i k room → turns_from q n i left ≡ replicate row k ++ turns_from q n (i + row) (left - row)
row_first q n i k room row left within most at =
    let room_is = at.room_is in
    let e : left ≡ row + (left - row) = omega (arith, most) in
    let f : at.turn * q + (at.place + row) ≡ i + row = let i_is = at.i_is in omega (arith, i_is) in
    ap (λ x. turns_from q n x left) at.i_is
    ∙ (ap (turns_from q n (at.turn * q + at.place)) e
    ∙ (turn_row q n at.turn at.place row (left - row) (omega (arith, room_is, within))
    ∙ (ap (λ x. replicate row x ++ turns_from q n (at.turn * q + (at.place + row)) (left - row)) (sym at.k_is)
    ∙ ap (λ x. replicate row k ++ turns_from q n x (left - row)) f)))

-- The layout of gaps is kept where an allocation begins anywhere in a gap.
use Rattle.std.proofs.Common.{◌≡◌, ℕ, ◌+◌, ◌-◌, ◌*◌, ◌%◌, ◌<◌, ◌≤◌, Option, Some, None, arith, ap, sym, ◌∙◌, subst, inl, inr}
use Rattle.std.proofs.lemmas.Bool.{cases_eq, cases_lt}
use Rattle.ms_live.specs.refinement.Layout.{behind, IsIn, IsLayout, IsOpen, IsRun}
use Rattle.ms_live.specs.Place.{IsOutside}
use Rattle.ms_live.specs.declared.gaps.Live.{Live}
use Rattle.ms_live.proofs.Layouts.{behind_is, closed, wall, Joins, nothing, same_room, three}
use Rattle.ms_monitor.specs.refinement.Gaps.{IsBefore, Splits}

-- an allocation in a gap: the key of the gap behind it is free
pub no_gap_behind : (IsLive : Live → Type 0) (capacity : ℕ) (f : ℕ → Option ℕ) → IsLayout IsLive capacity f → (s : Live) (key room : ℕ) → 0 < s.size → s.base % 16 ≡ 0 → f key ≡ Some room → 16 * key ≤ s.base → s.base + s.size ≤ 16 * key + room → f (behind s) ≡ None
no_gap_behind IsLive capacity f l s key room n a found from fits =
    let b = behind_is s a n in
    let b1 = b.from in
    let b2 = b.last in
    nothing (f (behind s)) (λ r q. let x = wall IsLive capacity f l key room (behind s) r found q (omega arith) in omega arith)

-- a run from an address on lies in the last gap that begins at it or before it
pub run_in_gap : (IsLive : Live → Type 0) (capacity : ℕ) (f : ℕ → Option ℕ) → IsLayout IsLive capacity f → (base size key room : ℕ) → IsBefore f base key room → 0 < size → base % 16 ≡ 0 → IsRun IsLive capacity base (base + size) → base + size ≤ 16 * key + room
run_in_gap IsLive capacity f l base size key room b n a run =
    let w = l.whole base (base + size) (omega arith) a run in
    let w3 = w.3 in
    let w4 = w.4 in
    let up = b.up_to in
    elim (cases_eq w.0 key) [
      | inl h ↦ let q : w.1 ≡ room = same_room (f key) w.1 room (sym (ap f h) ∙ w.2) b.found in omega arith
      | inr h ↦ elim (cases_lt w.0 key) [
        | inl c ↦ let x = wall IsLive capacity f l w.0 w.1 key room w.2 b.found c in absurd (omega arith)
        | inr c ↦ let q = sym (b.none_between w.0 (omega arith) (omega arith)) ∙ w.2 in absurd (cc)
      ]
    ]

pub gap_has_run : (IsLive : Live → Type 0) (capacity : ℕ) (f : ℕ → Option ℕ) → IsLayout IsLive capacity f → (base size key room : ℕ) → f key ≡ Some room → 16 * key ≤ base → base + size ≤ 16 * key + room → IsRun IsLive capacity base (base + size)
gap_has_run IsLive capacity f l base size key room found from fits x i j = l.free key room found x (omega arith) (omega arith)

pub splits_kept : (Old New : Live → Type 0) (capacity : ℕ) (f g : ℕ → Option ℕ) (s : Live) (key room : ℕ) → IsLayout Old capacity f → 0 < s.size → s.base % 16 ≡ 0 → f key ≡ Some room → 16 * key ≤ s.base → s.base + s.size ≤ 16 * key + room → Joins Old New s → Splits f g s.base s.size key room → IsLayout New capacity g
splits_kept Old New capacity f g s key room l n a found before fits w e =
    let b = behind_is s a n in
    let b0 = b.some in
    let b1 = b.from in
    let b2 = b.last in
    let b3 = b.end in
    let run = gap_has_run Old capacity f l s.base s.size key room found before fits in
    let last_open = (run (s.base + s.size - 1) (omega arith) (omega arith)).0 in
    let absent = no_gap_behind Old capacity f l s key room n a found before fits in
    -- what is open then was open, and isn't in the new allocation
    let opens = λ (x : ℕ) (o : IsOpen New capacity x). let p : IsOpen Old capacity x = (o.0, λ t h. o.1 t (w.stays t h)) in p in
    let beside = λ (x : ℕ) (o : IsOpen New capacity x) (h : IsIn x s). closed New capacity x s o w.here h in
    let still = λ (x : ℕ) (o : IsOpen Old capacity x) (h : IsIn x s → ⊥).
    let p : IsOpen New capacity x = (
      o.0,
      λ t live. elim (w.old t live) [
        | inl was ↦ o.1 t was
        | inr same ↦ subst (IsOutside x) (sym same) (λ from. elim (cases_lt x (s.base + s.size)) [ inl in_it ↦ absurd (h (from, in_it)) | inr out ↦ out ])
      ],
    ) in
    p in
    record {
      aligned = λ t live. elim (w.old t live) [ inl was ↦ l.aligned t was | inr same ↦ subst (λ (x : Live). x.base % 16 ≡ 0) (sym same) a ];
      within = λ t live some. elim (w.old t live) [
        | inl was ↦ l.within t was some
        | inr same ↦ subst (λ (x : Live). x.base + x.size ≤ capacity) (sym same) (omega arith)
      ];
      apart = λ t u lt lu x it iu. elim (w.old t lt) [
        | inl was ↦ elim (w.old u lu) [
          | inl too ↦ l.apart t u was too x it iu
          | inr same ↦ let i = subst (IsIn x) same iu in absurd (closed Old capacity x t (run x i.0 i.1) was it)
        ]
        | inr same ↦ elim (w.old u lu) [
          | inl too ↦ let i = subst (IsIn x) same it in absurd (closed Old capacity x u (run x i.0 i.1) too iu)
          | inr too ↦ same ∙ sym too
        ]
      ];
      first = elim (three 0 key (behind s)) [
        | inl h ↦ (s.base - 16 * key, ap g h ∙ e.at_key)
        | inr h ↦ elim h [ inl h ↦ absurd (omega arith) | inr h ↦ (l.first.0, e.others 0 h.0 h.1 ∙ l.first.1) ]
      ];
      backs = λ t live some. elim (w.old t live) [
        | inl was ↦ elim (three (behind t) key (behind s)) [
          | inl h ↦ (s.base - 16 * key, ap g h ∙ e.at_key)
          | inr h ↦ elim h [
            | inl h ↦ (16 * key + room - 16 * behind s, ap g h ∙ e.at_back)
            | inr h ↦ let p = l.backs t was some in (p.0, e.others (behind t) h.0 h.1 ∙ p.1)
          ]
        ]
        | inr same ↦ (16 * key + room - 16 * behind s, ap (λ (x : Live). g (behind x)) same ∙ e.at_back)
      ];
      starts = λ k r is some. elim (three k key (behind s)) [
        | inl h ↦ let p = l.starts key room found (omega arith) in (p.0, w.stays p.0 p.1, p.2, p.3 ∙ sym h)
        | inr h ↦ elim h [
          | inl h ↦ (s, w.here, n, sym h)
          | inr h ↦ let p = l.starts k r (sym (e.others k h.0 h.1) ∙ is) some in (p.0, w.stays p.0 p.1, p.2, p.3)
        ]
      ];
      free = λ k r is. elim (three k key (behind s)) [
        | inl h ↦
            let q : r ≡ s.base - 16 * key = same_room (g key) r (s.base - 16 * key) (sym (ap g h) ∙ is) e.at_key in
            λ x from to. still x (l.free key room found x (omega arith) (omega arith)) (λ i. let i0 = i.0 in omega arith)
        | inr h ↦ elim h [
          | inl h ↦
              let q = same_room (g (behind s)) r (16 * key + room - 16 * behind s) (sym (ap g h) ∙ is) e.at_back in
              λ x from to. still x (l.free key room found x (omega arith) (omega arith)) (λ i. let j = i.1 in omega arith)
          | inr h ↦
              let was = sym (e.others k h.0 h.1) ∙ is in
              λ x from to. still x (l.free k r was x from to) (λ i.
              let i0 = i.0 in
              let i1 = i.1 in
              elim (cases_lt k key) [
                | inl c ↦ let x = wall Old capacity f l k r key room was found c in omega arith
                | inr c ↦ let ne = h.0 in let x = wall Old capacity f l key room k r found was (omega arith) in omega arith
              ])
        ]
      ];
      whole = λ from to less even free.
          let p = l.whole from to less even (λ x i j. opens x (free x i j)) in
          let k = p.0 in
          let r = p.1 in
          let p3 = p.3 in
          let p4 = p.4 in
          elim (three k key (behind s)) [
            | inl h ↦
                let q : r ≡ room = same_room (f key) r room (sym (ap f h) ∙ p.2) found in
                elim (cases_lt from s.base) [
                  | inl low ↦
                      let short : to ≤ s.base = elim (cases_lt s.base to) [ inl over ↦ absurd (beside s.base (free s.base (omega arith) over) (omega arith, omega arith)) | inr d ↦ d ] in
                      (key, s.base - 16 * key, e.at_key, omega arith, omega arith)
                  | inr high ↦
                      let past : s.base + s.size ≤ from = elim (cases_lt from (s.base + s.size)) [ inl in_it ↦ absurd (beside from (free from (omega arith) less) (high, in_it)) | inr out ↦ out ] in
                      (behind s, 16 * key + room - 16 * behind s, e.at_back, omega arith, omega arith)
                ]
            | inr h ↦ elim h [
              | inl h ↦ let q = sym absent ∙ (sym (ap f h) ∙ p.2) in absurd (cc)
              | inr h ↦ (k, r, e.others k h.0 h.1 ∙ p.2, p3, p4)
            ]
          ];
    }

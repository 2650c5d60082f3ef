-- What holds of a layout, and that it is kept when a segment begins or ends.
use Rattle.std.proofs.Common.{◌≡◌, ◌≢◌, ℕ, ◌+◌, ◌-◌, ◌*◌, ◌%◌, ◌<◌, ◌≤◌, Option, Some, None, min, refl, arith, ap, sym, ◌∙◌, subst, ◌⊎◌, inl, inr}
use Rattle.std.proofs.lemmas.Bool.{cases_lt}
use Rattle.ms_live.specs.refinement.Layout.{behind, Begins, Ends, IsBegun, IsIn, IsLayout, IsOpen, IsRun}
use Rattle.ms_live.specs.Place.{IsOutside}
use Rattle.ms_live.specs.declared.gaps.Live.{Live}

-- the last 16 addresses before the gap behind a segment begin within it
pub record IsBehind (s : Live) (key : ℕ) : Type 0 where
  pub some : 1 ≤ key
  pub from : s.base + 16 ≤ 16 * key
  pub last : 16 * key < s.base + s.size + 16
  pub end : s.base + s.size ≤ 16 * key

pub behind_is : (s : Live) → s.base % 16 ≡ 0 → 0 < s.size → IsBehind s (behind s)
behind_is s a n = record { some = omega arith; from = omega arith; last = omega arith; end = omega arith }

in_last : (s : Live) (key : ℕ) → IsBehind s key → IsIn (16 * key - 16) s
in_last s key b = let x = b.from in let y = b.last in (omega arith, omega arith)

-- no live address is open
pub closed : (IsLive : Live → Type 0) (capacity address : ℕ) (s : Live) → IsOpen IsLive capacity address → IsLive s → IsIn address s → ⊥
closed IsLive capacity address s free live inside = let p = free.1 s live inside.0 in let q = inside.1 in omega arith

-- a gap ends before the segment that another begins behind
pub wall : (IsLive : Live → Type 0) (capacity : ℕ) (f : ℕ → Option ℕ) → IsLayout IsLive capacity f → (k r k' r' : ℕ) → f k ≡ Some r → f k' ≡ Some r' → k < k' → 16 * k + r + 16 ≤ 16 * k'
wall IsLive capacity f l k r k' r' e e' less =
    let s = l.starts k' r' e' (omega arith) in
    let b = subst (IsBehind s.0) s.3 (behind_is s.0 (l.aligned s.0 s.1) s.2) in
    elim (cases_lt (16 * k' - 16) (16 * k + r)) [
      | inl h ↦ absurd (closed IsLive capacity (16 * k' - 16) s.0 (l.free k r e (16 * k' - 16) (omega arith) h) s.1 (in_last s.0 k' b))
      | inr h ↦ omega arith
    ]

-- two segments before one gap are the same
pub one_behind : (IsLive : Live → Type 0) (capacity : ℕ) (f : ℕ → Option ℕ) → IsLayout IsLive capacity f → (s t : Live) → IsLive s → IsLive t → 0 < s.size → 0 < t.size → behind s ≡ behind t → s ≡ t
one_behind IsLive capacity f l s t ls lt n m e =
    let b = behind_is s (l.aligned s ls) n in
    let c = subst (IsBehind t) (sym e) (behind_is t (l.aligned t lt) m) in
    l.apart s t ls lt (16 * behind s - 16) (in_last s (behind s) b) (in_last t (behind s) c)

-- ---- a segment begins

pub nothing : (o : Option ℕ) → ((r : ℕ) → o ≡ Some r → ⊥) → o ≡ None
nothing None h = refl
nothing (Some r) h = absurd (h r refl)

pub begins : (IsLive : Live → Type 0) (capacity : ℕ) (f : ℕ → Option ℕ) → IsLayout IsLive capacity f → (s : Live) → 0 < s.size → s.base % 16 ≡ 0 → IsRun IsLive capacity s.base (s.base + s.size)
    → ((lower : ℕ) → lower < s.base → lower % 16 ≡ 0 → IsRun IsLive capacity lower (lower + s.size) → ⊥) → (key : ℕ) × (room : ℕ) × IsBegun f s key room
begins IsLive capacity f l s n a run least =
    let w = l.whole s.base (s.base + s.size) (omega arith) a run in
    let key = w.0 in
    let room = w.1 in
    let e = w.2 in
    let from = w.3 in
    let to = w.4 in
    let at : s.base ≡ 16 * key =
    elim (cases_lt (16 * key) s.base) [
      | inl h ↦ absurd (least (16 * key) h (omega arith) (λ x b c. l.free key room e x b (omega arith)))
      | inr h ↦ omega arith
    ] in
    let b = behind_is s a n in
    let b1 = b.from in
    let b2 = b.last in (
      key,
      room,
      record {
        at = at;
        found = e;
        fits = omega arith;
        absent = nothing (f (behind s)) (λ r q.
            let x = wall IsLive capacity f l key room (behind s) r e q (omega arith) in
            omega arith);
      },
    )

-- who is live once it has begun
pub record Joins (Old New : Live → Type 0) (s : Live) : Type 0 where
  pub old : (t : Live) → New t → Old t ⊎ (t ≡ s)
  pub stays : (t : Live) → Old t → New t
  pub here : New s

-- a key is the segment's, the one behind it, or another
pub three : (k a b : ℕ) → (k ≡ a) ⊎ ((k ≡ b) ⊎ ((k ≢ a) × (k ≢ b)))
three k a b =
    elim (cases_lt k a) [
      | inl h ↦ elim (cases_lt k b) [
        | inl c ↦ inr (inr (omega arith, omega arith))
        | inr c ↦ elim (cases_lt b k) [ inl d ↦ inr (inr (omega arith, omega arith)) | inr d ↦ inr (inl (omega arith)) ]
      ]
      | inr h ↦ elim (cases_lt a k) [
        | inl g ↦ elim (cases_lt k b) [
          | inl c ↦ inr (inr (omega arith, omega arith))
          | inr c ↦ elim (cases_lt b k) [ inl d ↦ inr (inr (omega arith, omega arith)) | inr d ↦ inr (inl (omega arith)) ]
        ]
        | inr g ↦ inl (omega arith)
      ]
    ]

pub same_room : (o : Option ℕ) (r q : ℕ) → o ≡ Some r → o ≡ Some q → r ≡ q
same_room o r q h k = cc

pub entered : (Old New : Live → Type 0) (capacity : ℕ) (f g : ℕ → Option ℕ) (s : Live) (key room : ℕ) → IsLayout Old capacity f → 0 < s.size → s.base % 16 ≡ 0 → IsRun Old capacity s.base (s.base + s.size) → IsBegun f s key room → Joins Old New s → Begins f g s key room → IsLayout New capacity g
entered Old New capacity f g s key room l n a run begun w e =
    let at = begun.at in
    let fits = begun.fits in
    let b = behind_is s a n in
    let b1 = b.from in
    let b2 = b.last in
    let b3 = b.end in
    let last_open = (run (s.base + s.size - 1) (omega arith) (omega arith)).0 in
    -- what is open then was open, and isn't in the new segment
    let opens = λ (x : ℕ) (o : IsOpen New capacity x). let p : IsOpen Old capacity x = (o.0, λ t h. o.1 t (w.stays t h)) in p in
    let beside = λ (x : ℕ) (o : IsOpen New capacity x) (h : IsIn x s). closed New capacity x s o w.here h in
    let still = λ (x : ℕ) (o : IsOpen Old capacity x) (h : IsIn x s → ⊥).
    let p : IsOpen New capacity x = (
      o.0,
      λ t live. elim (w.old t live) [
        | inl was ↦ o.1 t was
        | inr same ↦ subst (IsOutside x) (sym same) (λ from. elim (cases_lt x (s.base + s.size)) [ inl in_it ↦ absurd (h (from, in_it)) | inr out ↦ out ])
      ],
    ) in
    p in
    record {
      aligned = λ t live. elim (w.old t live) [ inl was ↦ l.aligned t was | inr same ↦ subst (λ (x : Live). x.base % 16 ≡ 0) (sym same) a ];
      within = λ t live some. elim (w.old t live) [
        | inl was ↦ l.within t was some
        | inr same ↦ subst (λ (x : Live). x.base + x.size ≤ capacity) (sym same) (omega arith)
      ];
      apart = λ t u lt lu x it iu. elim (w.old t lt) [
        | inl was ↦ elim (w.old u lu) [
          | inl too ↦ l.apart t u was too x it iu
          | inr same ↦ let i = subst (IsIn x) same iu in absurd (closed Old capacity x t (run x i.0 i.1) was it)
        ]
        | inr same ↦ elim (w.old u lu) [
          | inl too ↦ let i = subst (IsIn x) same it in absurd (closed Old capacity x u (run x i.0 i.1) too iu)
          | inr too ↦ same ∙ sym too
        ]
      ];
      first = elim (three 0 key (behind s)) [
        | inl h ↦ (0, ap g h ∙ e.at_key)
        | inr h ↦ elim h [
          | inl h ↦ let x = b.some in absurd (omega arith)
          | inr h ↦ (l.first.0, e.others 0 h.0 h.1 ∙ l.first.1)
        ]
      ];
      backs = λ t live some. elim (w.old t live) [
        | inl was ↦ elim (three (behind t) key (behind s)) [
          | inl h ↦ (0, ap g h ∙ e.at_key)
          | inr h ↦ elim h [
            | inl h ↦ (16 * key + room - 16 * behind s, ap g h ∙ e.at_behind)
            | inr h ↦ let p = l.backs t was some in (p.0, e.others (behind t) h.0 h.1 ∙ p.1)
          ]
        ]
        | inr same ↦ (16 * key + room - 16 * behind s, ap (λ (x : Live). g (behind x)) same ∙ e.at_behind)
      ];
      starts = λ k r is some. elim (three k key (behind s)) [
        | inl h ↦ let p = l.starts key room begun.found (omega arith) in (p.0, w.stays p.0 p.1, p.2, p.3 ∙ sym h)
        | inr h ↦ elim h [
          | inl h ↦ (s, w.here, n, sym h)
          | inr h ↦ let p = l.starts k r (sym (e.others k h.0 h.1) ∙ is) some in (p.0, w.stays p.0 p.1, p.2, p.3)
        ]
      ];
      free = λ k r is. elim (three k key (behind s)) [
        | inl h ↦
            let q : r ≡ 0 = same_room (g key) r 0 (sym (ap g h) ∙ is) e.at_key in
            λ x from to. absurd (omega arith)
        | inr h ↦ elim h [
          | inl h ↦
              let q = same_room (g (behind s)) r (16 * key + room - 16 * behind s) (sym (ap g h) ∙ is) e.at_behind in
              λ x from to. still x (l.free key room begun.found x (omega arith) (omega arith)) (λ i. let j = i.1 in omega arith)
          | inr h ↦
              let was = sym (e.others k h.0 h.1) ∙ is in
              λ x from to. still x (l.free k r was x from to) (λ i.
              let i0 = i.0 in
              let i1 = i.1 in
              elim (cases_lt k key) [
                | inl c ↦ let x = wall Old capacity f l k r key room was begun.found c in omega arith
                | inr c ↦ let ne = h.0 in let x = wall Old capacity f l key room k r begun.found was (omega arith) in omega arith
              ])
        ]
      ];
      whole = λ from to less even free.
          let p = l.whole from to less even (λ x i j. opens x (free x i j)) in
          let k = p.0 in
          let r = p.1 in
          let p3 = p.3 in
          let p4 = p.4 in
          elim (three k key (behind s)) [
            | inl h ↦
                let q : r ≡ room = same_room (f key) r room (sym (ap f h) ∙ p.2) begun.found in
                let past : s.base + s.size ≤ from = elim (cases_lt from (s.base + s.size)) [ inl in_it ↦ absurd (beside from (free from (omega arith) less) (omega arith, in_it)) | inr out ↦ out ] in
                (behind s, 16 * key + room - 16 * behind s, e.at_behind, omega arith, omega arith)
            | inr h ↦ elim h [
              | inl h ↦ let q = sym begun.absent ∙ (sym (ap f h) ∙ p.2) in absurd (cc)
              | inr h ↦ (k, r, e.others k h.0 h.1 ∙ p.2, p3, p4)
            ]
          ];
    }

-- ---- a segment ends

-- who is live once it has ended
pub record Leaves (Old New : Live → Type 0) (s : Live) : Type 0 where
  pub was : (t : Live) → New t → Old t × (t ≢ s)
  pub stays : (t : Live) → Old t → t ≢ s → New t
  pub is : Old s

-- the gap before a segment reaches it
pub reaches : (Old : Live → Type 0) (capacity : ℕ) (f g : ℕ → Option ℕ) (s : Live) (key room rest : ℕ) → IsLayout Old capacity f → 0 < s.size → Old s → Ends capacity f g s key room rest → s.base ≡ 16 * key + room
reaches Old capacity f g s key room rest l n is e =
    let a = l.aligned s is in
    let before = e.before in
    let inside = l.within s is n in
    let upto : 16 * key + room ≤ s.base =
    elim (cases_lt s.base (16 * key + room)) [
      | inl h ↦ absurd (closed Old capacity s.base s (l.free key room e.found s.base before h) is (omega arith, omega arith))
      | inr h ↦ h
    ] in
    elim (cases_lt (16 * key) s.base) [
      | inr h ↦ omega arith
      | inl h ↦
          -- the 16 addresses before the segment are in no other one, since a gap would begin at the segment
          let run : IsRun Old capacity (s.base - 16) s.base = λ x from to. (
            omega arith,
            λ t live low. elim (cases_lt x (t.base + t.size)) [
              | inr out ↦ out
              | inl in_it ↦
                  let ta = l.aligned t live in
                  elim (cases_lt s.base (t.base + t.size)) [
                    | inl over ↦
                        let same = l.apart t s live is s.base (omega arith, over) (omega arith, omega arith) in
                        let q = ap (λ (u : Live). u.base) same in
                        absurd (omega arith)
                    | inr short ↦
                        let some : 0 < t.size = omega arith in
                        let b = behind_is t ta some in
                        let b1 = b.last in
                        let b2 = b.end in
                        let p = l.backs t live some in
                        let q = sym (e.none_between (behind t) (omega arith) (omega arith)) ∙ p.1 in
                        absurd (cc)
                  ]
            ],
          ) in
          let w = l.whole (s.base - 16) s.base (omega arith) (omega arith) run in
          let k = w.0 in
          let w3 = w.3 in
          let w4 = w.4 in
          elim (three k key key) [
            | inl i ↦ let q : w.1 ≡ room = same_room (f key) w.1 room (sym (ap f i) ∙ w.2) e.found in omega arith
            | inr h ↦ elim h [
              | inl i ↦ let q : w.1 ≡ room = same_room (f key) w.1 room (sym (ap f i) ∙ w.2) e.found in omega arith
              | inr i ↦ let ne = i.0 in elim (cases_lt k key) [
                | inl c ↦ let x = wall Old capacity f l k w.1 key room w.2 e.found c in absurd (omega arith)
                | inr c ↦ let q = sym (e.none_between k (omega arith) (omega arith)) ∙ w.2 in absurd (cc)
              ]
            ]
          ]
    ]

pub left : (Old New : Live → Type 0) (capacity : ℕ) (f g : ℕ → Option ℕ) (s : Live) (key room rest : ℕ) → IsLayout Old capacity f → 0 < s.size → Leaves Old New s → Ends capacity f g s key room rest → IsLayout New capacity g
left Old New capacity f g s key room rest l n m e =
    let a = l.aligned s m.is in
    let inside = l.within s m.is n in
    let reach = reaches Old capacity f g s key room rest l n m.is e in
    let b = behind_is s a n in
    let b1 = b.from in
    let b2 = b.last in
    let b3 = b.end in
    let end = min (16 * behind s + rest) capacity in
    let far : s.base + s.size ≤ end = omega arith in
    let joined = e.at_key in
    -- what was open is open, and what is open then was open or in the segment
    let opens = λ (x : ℕ) (o : IsOpen Old capacity x). let p : IsOpen New capacity x = (o.0, λ t h. o.1 t (m.was t h).0) in p in
    let was_open = λ (x : ℕ) (o : IsOpen New capacity x) (h : IsIn x s → ⊥).
    let p : IsOpen Old capacity x = (
      o.0,
      λ t live low. elim (cases_lt x (t.base + t.size)) [
        | inr out ↦ out
        | inl in_it ↦ let ne : t ≢ s = λ q. h (subst (IsIn x) q (low, in_it)) in o.1 t (m.stays t live ne) low
      ],
    ) in
    p in
    let gap : IsRun New capacity (16 * key) end = λ x from to. (
      omega arith,
      λ t live low. elim (cases_lt x (t.base + t.size)) [
        | inr out ↦ out
        | inl in_it ↦
            let w = m.was t live in
            elim (cases_lt x s.base) [
              | inl c ↦ absurd (closed Old capacity x t (l.free key room e.found x from (omega arith)) w.0 (low, in_it))
              | inr c ↦ elim (cases_lt x (s.base + s.size)) [
                | inl d ↦ absurd (w.1 (l.apart t s w.0 m.is x (low, in_it) (c, d)))
                | inr d ↦ elim (cases_lt x (16 * behind s)) [
                  | inl slack ↦
                      let ta = l.aligned t w.0 in
                      absurd (w.1 (l.apart t s w.0 m.is (16 * behind s - 16) (omega arith, omega arith) (omega arith, omega arith)))
                  | inr f ↦ absurd (closed Old capacity x t (l.free (behind s) rest e.back x f (omega arith)) w.0 (low, in_it))
                ]
              ]
            ]
      ],
    ) in
    -- a run reaches no further than the gap
    let ends : (q : ℕ) → end < q → IsRun New capacity end q → ⊥ = λ q more run.
    let here = run end (omega arith) more in
    let below = here.0 in
    let o = was_open end here (λ i. let i1 = i.1 in omega arith) in
    let w = l.whole (16 * behind s) (16 * behind s + rest + 1) (omega arith) (omega arith) (λ x from to. elim (cases_lt x (16 * behind s + rest)) [ inl c ↦ l.free (behind s) rest e.back x from c | inr c ↦ subst (IsOpen Old capacity) (omega arith) o ]) in
    let w3 = w.3 in
    let w4 = w.4 in
    elim (cases_lt w.0 (behind s)) [
      | inl c ↦ let x = wall Old capacity f l w.0 w.1 (behind s) rest w.2 e.back c in omega arith
      | inr c ↦ let same : w.0 ≡ behind s = omega arith in let q : w.1 ≡ rest = same_room (f (behind s)) w.1 rest (sym (ap f same) ∙ w.2) e.back in omega arith
    ] in
    record {
      aligned = λ t live. l.aligned t (m.was t live).0;
      within = λ t live some. l.within t (m.was t live).0 some;
      apart = λ t u lt lu x it iu. l.apart t u (m.was t lt).0 (m.was u lu).0 x it iu;
      first = elim (three 0 key (behind s)) [
        | inl h ↦ (end - 16 * key, ap g h ∙ joined)
        | inr h ↦ elim h [
          | inl h ↦ let x = b.some in absurd (omega arith)
          | inr h ↦ (l.first.0, e.others 0 h.0 h.1 ∙ l.first.1)
        ]
      ];
      backs = λ t live some.
          let w = m.was t live in
          let p = l.backs t w.0 some in
          elim (three (behind t) key (behind s)) [
            | inl h ↦ (end - 16 * key, ap g h ∙ joined)
            | inr h ↦ elim h [
              | inl h ↦ absurd (w.1 (one_behind Old capacity f l t s w.0 m.is some n h))
              | inr h ↦ (p.0, e.others (behind t) h.0 h.1 ∙ p.1)
            ]
          ];
      starts = λ k r is some. elim (three k key (behind s)) [
        | inl h ↦
            let p = l.starts key room e.found (omega arith) in
            (p.0, m.stays p.0 p.1 (λ q. let x = sym (ap behind q) ∙ p.3 in omega arith), p.2, p.3 ∙ sym h)
        | inr h ↦ elim h [
          | inl h ↦ let q = sym e.at_behind ∙ (sym (ap g h) ∙ is) in absurd (cc)
          | inr h ↦
              let p = l.starts k r (sym (e.others k h.0 h.1) ∙ is) some in
              (p.0, m.stays p.0 p.1 (λ q. h.1 (sym p.3 ∙ ap behind q)), p.2, p.3)
        ]
      ];
      free = λ k r is. elim (three k key (behind s)) [
        | inl h ↦
            let q = same_room (g key) r (end - 16 * key) (sym (ap g h) ∙ is) joined in
            λ x from to. gap x (omega arith) (omega arith)
        | inr h ↦ elim h [
          | inl h ↦ let q = sym e.at_behind ∙ (sym (ap g h) ∙ is) in absurd (cc)
          | inr h ↦ λ x from to. opens x (l.free k r (sym (e.others k h.0 h.1) ∙ is) x from to)
        ]
      ];
      whole = λ from to less even free.
          elim (cases_lt from (16 * key)) [
            | inl low ↦
                let p = l.starts key room e.found (omega arith) in
                let c = subst (IsBehind p.0) p.3 (behind_is p.0 (l.aligned p.0 p.1) p.2) in
                let i = in_last p.0 key c in
                let live = m.stays p.0 p.1 (λ q. let x = sym (ap behind q) ∙ p.3 in omega arith) in
                let short : to ≤ 16 * key - 16 = elim (cases_lt (16 * key - 16) to) [ inl over ↦ absurd (closed New capacity (16 * key - 16) p.0 (free (16 * key - 16) (omega arith) over) live i) | inr d ↦ d ] in
                let w = l.whole from to less even (λ x i j. was_open x (free x i j) (λ q. let q0 = q.0 in omega arith)) in
                let w3 = w.3 in
                let w4 = w.4 in
                (w.0, w.1, e.others w.0 (omega arith) (omega arith) ∙ w.2, w3, w4)
            | inr high ↦ elim (cases_lt from end) [
              | inl in_it ↦
                  let short : to ≤ end = elim (cases_lt end to) [ inl over ↦ absurd (ends to over (λ x i j. free x (omega arith) j)) | inr d ↦ d ] in
                  (key, end - 16 * key, joined, high, omega arith)
              | inr past ↦
                  let below = (free from (omega arith) less).0 in
                  let w = l.whole from to less even (λ x i j. was_open x (free x i j) (λ q. let q1 = q.1 in omega arith)) in
                  let w3 = w.3 in
                  let w4 = w.4 in
                  let other : w.0 ≢ key = λ h. let q : w.1 ≡ room = same_room (f key) w.1 room (sym (ap f h) ∙ w.2) e.found in omega arith in
                  let another : w.0 ≢ behind s = λ h. let q : w.1 ≡ rest = same_room (f (behind s)) w.1 rest (sym (ap f h) ∙ w.2) e.back in omega arith in
                  (w.0, w.1, e.others w.0 other another ∙ w.2, w3, w4)
            ]
          ];
    }

-- ---- a segment of no bytes

pub entered_empty : (Old New : Live → Type 0) (capacity : ℕ) (f : ℕ → Option ℕ) (s : Live) → IsLayout Old capacity f → s.size ≡ 0 → s.base % 16 ≡ 0 → Joins Old New s → IsLayout New capacity f
entered_empty Old New capacity f s l n a w =
    let never = λ (t : Live) (same : t ≡ s) (some : 0 < t.size). let q = ap (λ (u : Live). u.size) same in let p : ⊥ = omega arith in p in
    record {
      aligned = λ t live. elim (w.old t live) [ inl was ↦ l.aligned t was | inr same ↦ subst (λ (x : Live). x.base % 16 ≡ 0) (sym same) a ];
      within = λ t live some. elim (w.old t live) [ inl was ↦ l.within t was some | inr same ↦ absurd (never t same some) ];
      apart = λ t u lt lu x it iu. elim (w.old t lt) [
        | inl was ↦ elim (w.old u lu) [
          | inl too ↦ l.apart t u was too x it iu
          | inr same ↦ let i0 = iu.0 in let i1 = iu.1 in absurd (never u same (omega arith))
        ]
        | inr same ↦ let i0 = it.0 in let i1 = it.1 in absurd (never t same (omega arith))
      ];
      first = l.first;
      backs = λ t live some. elim (w.old t live) [ inl was ↦ l.backs t was some | inr same ↦ absurd (never t same some) ];
      starts = λ k r is some. let p = l.starts k r is some in (p.0, w.stays p.0 p.1, p.2, p.3);
      free = λ k r is x from to.
          let o = l.free k r is x from to in (
            o.0,
            λ t live. elim (w.old t live) [ inl was ↦ o.1 t was | inr same ↦ λ low. let q = ap (λ (u : Live). u.size) same in omega arith ],
          );
      whole = λ from to less even free. l.whole from to less even (λ x i j. let o = free x i j in (o.0, λ t live. o.1 t (w.stays t live)));
    }

pub left_empty : (Old New : Live → Type 0) (capacity : ℕ) (f : ℕ → Option ℕ) (s : Live) → IsLayout Old capacity f → s.size ≡ 0 → Leaves Old New s → IsLayout New capacity f
left_empty Old New capacity f s l n w =
    let never = λ (t : Live) (some : 0 < t.size) (same : t ≡ s). let q = ap (λ (u : Live). u.size) same in let p : ⊥ = omega arith in p in
    record {
      aligned = λ t live. l.aligned t (w.was t live).0;
      within = λ t live some. l.within t (w.was t live).0 some;
      apart = λ t u lt lu x it iu. l.apart t u (w.was t lt).0 (w.was u lu).0 x it iu;
      first = l.first;
      backs = λ t live some. l.backs t (w.was t live).0 some;
      starts = λ k r is some. let p = l.starts k r is some in (p.0, w.stays p.0 p.1 (never p.0 p.2), p.2, p.3);
      free = λ k r is x from to. let o = l.free k r is x from to in (o.0, λ t live. o.1 t (w.was t live).0);
      whole = λ from to less even free. l.whole from to less even (λ x i j.
          let o = free x i j in (
            o.0,
            λ t live low. elim (cases_lt x (t.base + t.size)) [
              | inr out ↦ out
              | inl in_it ↦ absurd (closed New capacity x t o (w.stays t live (never t (omega arith))) (low, in_it))
            ],
          ));
    }

-- ---- at the start, and how far gaps reach

pub layout_new : (IsLive : Live → Type 0) (capacity : ℕ) (f : ℕ → Option ℕ) → ((s : Live) → IsLive s → ⊥) → f 0 ≡ Some capacity → ((k : ℕ) → k ≢ 0 → f k ≡ None) → IsLayout IsLive capacity f
layout_new IsLive capacity f none is others =
    record {
      aligned = λ s live. absurd (none s live);
      within = λ s live. absurd (none s live);
      apart = λ s t live. absurd (none s live);
      first = (capacity, is);
      backs = λ s live. absurd (none s live);
      starts = λ k r at some. let q = sym (others k (omega arith)) ∙ at in absurd (cc);
      free = λ k r at x from to.
          elim (cases_lt 0 k) [
            | inl some ↦ let q = sym (others k (omega arith)) ∙ at in absurd (cc)
            | inr zero ↦
                let e : k ≡ 0 = omega arith in
                let q : r ≡ capacity = same_room (f 0) r capacity (sym (ap f e) ∙ at) is in (omega arith, λ s live. absurd (none s live))
          ];
      whole = λ from to less even free. let last = (free (to - 1) (omega arith) (omega arith)).0 in (0, capacity, is, omega arith, omega arith);
    }

pub near : (IsLive : Live → Type 0) (capacity : ℕ) (f : ℕ → Option ℕ) → IsLayout IsLive capacity f → capacity < 4294967296 → (k r : ℕ) → f k ≡ Some r → 16 * k + r ≤ 4294967296
near IsLive capacity f l few k r is =
    elim (cases_lt 0 r) [
      | inl some ↦ let last = (l.free k r is (16 * k + r - 1) (omega arith) (omega arith)).0 in omega arith
      | inr none ↦ elim (cases_lt 0 k) [
        | inl some ↦
            let p = l.starts k r is some in
            let b = subst (IsBehind p.0) p.3 (behind_is p.0 (l.aligned p.0 p.1) p.2) in
            let b1 = b.last in
            let b2 = l.within p.0 p.1 p.2 in
            omega arith
        | inr zero ↦ omega arith
      ]
    ]

-- What is told of how tasks stand is told in one way; and the addresses of their functions are those of the store, before a run and behind it.
use Rattle.std.proofs.Common.{◌≡◌, ◌∙◌, ◌+◌, ◌≤◌, ℕ, zero, suc, Bool, true, false, List, [], ◌∷◌, ◌++◌, length, map, drop, append_assoc, append-nil, arith, slice_get, OnOk, Option, Some, option_and_then, Result, Ok, Err, refl, sym, ap, subst, true≢false}
use Rattle.std.proofs.lemmas.List.{length-map}
use Rattle.ms_machine.specs.Crews.{Crew, Run}
use Rattle.ms_machine.specs.Store.{Store}
use Rattle.ms_machine.specs.Typing.{Outline, outline_of}
use Rattle.ms_machine.specs.declared.store.Instance.{Instance}
use Rattle.ms_task.specs.declared.func.FuncInst.{FuncInst}
use Rattle.ms_tasks.specs.States.{state_of}
use Rattle.ms_tasks.specs.Joined.{AreApart, IsApart, IsClosed, IsJoined, Joined, Shares, back, itself, on}
use Rattle.ms_tasks.specs.Tasks.{AreAddresses, IsCrewOf, task_address, task_of_instance}
use Rattle.ms_tasks.specs.declared.state.TaskState.{TaskState}
use Rattle.ms_tasks.specs.refinement.Making.{Addressed}
use Rattle.ms_run.specs.Executions.{AreLeft}
use Rattle.ms_tasks.proofs.Chaining.{drop_at}
use Rattle.ms_run.specs.Standing.{AreStanding, asked, standing_line, standing_lines, unasked}
use Rattle.ms_run.specs.Telling.{Inquiry}
use Rattle.ms_run.proofs.Reaching.{one_reached}

-- ---- a task is apart or joined, not both

joined_same : (s : Store) (set : ℕ → Bool) (closed : IsClosed set s) (n m : ℕ) → Joined s n m → set m ≡ set n
joined_same s set closed n _ itself = refl
joined_same s set closed n m (on k _ chain shares) = closed k m shares ∙ joined_same s set closed n k chain
joined_same s set closed n m (back k _ chain shares) = sym (closed m k shares) ∙ joined_same s set closed n k chain

not_both : (s : Store) (addresses : List ℕ) (n : ℕ) → IsApart s addresses n → IsJoined s addresses n → ⊥
not_both s addresses n apart joined =
    true≢false (sym (apart.own joined.from joined.own) ∙ (sym (joined_same s apart.set apart.closed joined.from joined.to joined.chain) ∙ apart.others joined.other joined.to joined.differs joined.theirs))

one_flag : (s : Store) (addresses : List ℕ) (n : ℕ) (b b' : Bool) → (b ≡ true → IsApart s addresses n) → (b ≡ false → IsJoined s addresses n) → (b' ≡ true → IsApart s addresses n) → (b' ≡ false → IsJoined s addresses n) → b ≡ b'
one_flag s addresses n true true h k h' k' = refl
one_flag s addresses n true false h k h' k' = absurd (not_both s addresses n (h refl) (k' refl))
one_flag s addresses n false true h k h' k' = absurd (not_both s addresses n (h' refl) (k refl))
one_flag s addresses n false false h k h' k' = refl

same_flags : (fs gs : List Bool) → length fs ≡ length gs → ((n : ℕ) (b b' : Bool) → slice_get fs n ≡ Some b → slice_get gs n ≡ Some b' → b ≡ b') → fs ≡ gs
same_flags [] [] e agree = refl
same_flags [] (g ∷ gs) e agree = absurd cc
same_flags (f ∷ fs) [] e agree = absurd cc
same_flags (f ∷ fs) (g ∷ gs) e agree =
    let rest : length fs ≡ length gs = cc in
    ap (λ (b : Bool). b ∷ fs) (agree 0 f g refl refl) ∙ ap (λ (bs : List Bool). g ∷ bs) (same_flags fs gs rest (λ n b b' h k. agree (suc n) b b' h k))

one_apart : (s : Store) (addresses : List ℕ) (fs gs : List Bool) → AreApart s addresses fs → AreApart s addresses gs → fs ≡ gs
one_apart s addresses fs gs h k =
    same_flags fs gs (h.each ∙ sym k.each) (λ n b b' is is'.
    one_flag s addresses n b b' (λ e. h.apart n (is ∙ ap Some e)) (λ e. h.joined n (is ∙ ap Some e)) (λ e. k.apart n (is' ∙ ap Some e)) (λ e. k.joined n (is' ∙ ap Some e)))

-- ---- one text

one_standing : (s : Store) (addresses : List ℕ) (state : ℕ → TaskState) (wanted : Bool) (lines lines' : List ℕ) → AreStanding s addresses state wanted lines → AreStanding s addresses state wanted lines' → lines ≡ lines'
one_standing s addresses state false lines lines' unasked unasked = refl
one_standing s addresses state true lines lines' (asked fs h) (asked gs k) = ap (standing_lines state 0) (one_apart s addresses fs gs h k)

same_items : (xs ys : List ℕ) → ◌≡◌ {A = List (Option ℕ)} (map Some xs) (map Some ys) → xs ≡ ys
same_items [] [] e = refl
same_items [] (y ∷ ys) e = absurd cc
same_items (x ∷ xs) [] e = absurd cc
same_items (x ∷ xs) (y ∷ ys) e =
    let first : x ≡ y = cc in
    let rest : ◌≡◌ {A = List (Option ℕ)} (map Some xs) (map Some ys) = cc in
    ap (λ (n : ℕ). n ∷ xs) first ∙ ap (λ (ns : List ℕ). y ∷ ns) (same_items xs ys rest)

pub one_left : (a : Inquiry) (run : Run) (left left' : List ℕ) → AreLeft a run left → AreLeft a run left' → left ≡ left'
one_left a run left left' (reached, standing, addresses, are, of, stand, is) (reached', standing', addresses', are', of', stand', is') =
    let same : addresses' ≡ addresses = same_items addresses' addresses (of' ∙ sym of) in
    let stand_too = subst (λ (xs : List ℕ). AreStanding run.crew.store xs (λ n. state_of n run) a.telling.each standing') same stand' in
    is ∙ (ap (λ (x : List ℕ). x ++ standing) (one_reached run.crew 0 a.telling.reach reached reached' are are') ∙ (ap (λ (x : List ℕ). reached' ++ x) (one_standing run.crew.store addresses (λ n. state_of n run) a.telling.each standing standing' stand stand_too) ∙ sym is'))

-- ---- the addresses

addresses_stay : (s after : Store) (tasks : List (ℕ × List ℕ)) (addresses : List ℕ) → outline_of after ≡ outline_of s → AreAddresses s tasks addresses → AreAddresses after tasks addresses
addresses_stay s after tasks addresses same h =
    subst (λ (o : Outline). map Some addresses ≡ map (λ (t : ℕ × List ℕ). option_and_then (task_of_instance o.funcs t.1) (slice_get o.instances t.0)) tasks) (sym same) h

pub addresses_length : (s : Store) (tasks : List (ℕ × List ℕ)) (addresses : List ℕ) → AreAddresses s tasks addresses → length addresses ≡ length tasks
addresses_length s tasks addresses h = sym (length-map addresses Some) ∙ (ap length h ∙ length-map tasks (λ (t : ℕ × List ℕ). task_address s t.0 t.1))

-- those of a new crew are of its own store
pub crew_addresses : (s : Store) (tasks : List (ℕ × List ℕ)) (c : Addressed) → IsCrewOf s tasks c.crew → AreAddresses s tasks c.addresses → AreAddresses c.store tasks c.addresses
crew_addresses s tasks c (threads, found, is) h = subst (λ (x : Crew). AreAddresses x.store tasks c.addresses) (sym is) h

-- those of a crew behind a run are those before it, of its store
pub addresses_after : (c after : Addressed) (tasks : List (ℕ × List ℕ)) → after.addresses ≡ c.addresses → outline_of after.store ≡ outline_of c.store → AreAddresses c.store tasks c.addresses → AreAddresses after.store tasks after.addresses
addresses_after c after tasks same outline h = subst (AreAddresses after.store tasks) (sym same) (addresses_stay c.store after.store tasks c.addresses outline h)

-- ---- task by task

pub standing_grows : (state : ℕ → TaskState) (made grown line all : List ℕ) (flags : List Bool) (k : ℕ) (flag : Bool) (stands : TaskState) → slice_get flags k ≡ Some flag → stands ≡ state k → line ≡ standing_line k flag stands → grown ≡ made ++ line
    → made ++ standing_lines state k (drop k flags) ≡ all → grown ++ standing_lines state (k + 1) (drop (k + 1) flags) ≡ all
standing_grows state made grown line all flags k flag stands found is of_line grows so_far =
    let rest = standing_lines state (suc k) (drop (suc k) flags) in
    let next : k + 1 ≡ suc k = omega arith in
    let left : standing_lines state k (drop k flags) ≡ line ++ rest =
    ap (standing_lines state k) (drop_at flags k flag found) ∙ ap (λ (x : List ℕ). x ++ rest) (ap (standing_line k flag) (sym is) ∙ sym of_line) in
    ap (λ (j : ℕ). grown ++ standing_lines state j (drop j flags)) next
    ∙ (ap (λ (x : List ℕ). x ++ rest) grows ∙ (append_assoc made line rest ∙ (ap (λ (x : List ℕ). made ++ x) (sym left) ∙ so_far)))

pub no_more_standing : (state : ℕ → TaskState) (made all : List ℕ) (flags : List Bool) (k : ℕ) → length flags ≤ k → made ++ standing_lines state k (drop k flags) ≡ all → made ≡ all
no_more_standing state made all flags k past so_far =
    sym (append-nil made) ∙ (ap (λ (bs : List Bool). made ++ standing_lines state k bs) (sym (nothing_left k flags past)) ∙ so_far)
  where
    nothing_left : (n : ℕ) (xs : List Bool) → length xs ≤ n → drop n xs ≡ []
    nothing_left zero [] h = refl
    nothing_left zero (x ∷ xs) h = absurd (omega arith)
    nothing_left (suc n) [] h = refl
    nothing_left (suc n) (x ∷ xs) h = nothing_left n xs (omega arith)

-- ---- where they are asked for

pub on_ok : {A B : Type 0} {P Q : Type 0} (o : Result A B) → (P → Q) → OnOk o P → OnOk o Q
on_ok (Ok x) goes h = goes h
on_ok (Err e) goes h = tt

pub none_standing : (s : Store) (addresses : List ℕ) (state : ℕ → TaskState) (wanted : Bool) (old : List ℕ) → wanted ≡ false → (standing : List ℕ) × AreStanding s addresses state wanted standing × (old ≡ old ++ standing)
none_standing s addresses state wanted old is = ([], subst (λ (b : Bool). AreStanding s addresses state b []) (sym is) unasked, sym (append-nil old))

pub all_standing : (s : Store) (addresses : List ℕ) (state : ℕ → TaskState) (wanted : Bool) (flags : List Bool) (old new : List ℕ) → wanted ≡ true → AreApart s addresses flags → new ≡ old ++ standing_lines state 0 flags
    → (standing : List ℕ) × AreStanding s addresses state wanted standing × (new ≡ old ++ standing)
all_standing s addresses state wanted flags old new is apart lines =
    (standing_lines state 0 flags, subst (λ (b : Bool). AreStanding s addresses state b (standing_lines state 0 flags)) (sym is) (asked flags apart), lines)

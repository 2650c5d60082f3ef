-- A call and the start of a task, as the code makes them.
use Rattle.std.proofs.Common.{◌≡◌, ◌≢◌, ℕ, zero, suc, ◌+◌, ◌-◌, ◌<◌, ◌≤◌, List, [], ◌∷◌, ◌++◌, length, drop, take, slice_get, Option, Some, refl, sym, ap, ◌∙◌, arith, length-drop, subst, ⊎_elim, reverse, map, cond, append_assoc, get_or, replicate, min}
use Rattle.ms_types.specs.declared.types.ValType.{ValType}
use Rattle.ms_linear.specs.declared.value.Value.{Value}
use Rattle.ms_linear.specs.Values.{default_of}
use Rattle.ms_module.specs.refinement.Locals.{Rise, types_of}
use Rattle.ms_module.specs.declared.locals.Run.{Run}
use Rattle.ms_task.specs.declared.func.FuncInst.{FuncInst}
use Rattle.ms_task.specs.declared.marks.Mark.{Mark}
use Rattle.ms_task.specs.declared.marks.Mark.TheVariants as marks
use Rattle.ms_task.specs.refinement.Marks.{calls_in}
use Rattle.std.proofs.lemmas.Bool.{lt-ltb, le-ltb, le-leb, cases_lt, lt-leb}
use Rattle.std.proofs.lemmas.Option.{slice_get_past, get_or_from_slice_get}
use Rattle.std.proofs.lemmas.List.{length-take-le, get_or-take, reverse-append}
use Rattle.std.proofs.Math.Seq.{take-append_seam, drop-append_seam, drop-cons}
use Rattle.ms_task.specs.Control.{To, Stuck, TooDeep, call_on, deepest, enter, entered, started}
use Rattle.ms_task.specs.Thread.{Activation, Frame, Thread, depth_of, dos, result_of, sequence, thread}
use Rattle.ms_task.specs.refinement.View.{items_of, rest_at}
use Rattle.ms_task.proofs.Items.{depth_past}
use Rattle.ms_task.proofs.Places.{no_function}

pub depth_of-items_of : (funcs : List FuncInst) (f : ℕ) (below : List Value) (ms : List Mark) → depth_of (items_of funcs f below ms) ≡ calls_in ms
depth_of-items_of funcs f below [] = refl
depth_of-items_of funcs f below (marks.Label k h s next a ∷ ms) = depth_past (drop next (sequence funcs f s)) (items_of funcs f below ms) ∙ depth_of-items_of funcs f below ms
depth_of-items_of funcs f below (marks.Activation k h g s next base floor ∷ ms) = ap suc (depth_past (drop next (sequence funcs g s)) (items_of funcs g (take base below) ms) ∙ depth_of-items_of funcs g (take base below) ms)

pub depth_of_rest : (funcs : List FuncInst) (f s next : ℕ) (below : List Value) (ms : List Mark) → depth_of (rest_at funcs f s next ++ items_of funcs f below ms) ≡ calls_in ms
depth_of_rest funcs f s next below ms = depth_past (drop next (sequence funcs f s)) (items_of funcs f below ms) ∙ depth_of-items_of funcs f below ms

pub call_deep : (funcs : List FuncInst) (f : ℕ) (t : Thread) → deepest ≤ depth_of t.work → call_on funcs f t ≡ TooDeep
call_deep funcs f t h = ap (λ b. cond b (enter funcs f (slice_get funcs f) t) (TooDeep)) (le-ltb _ _ h)

pub call_on-enter : (funcs : List FuncInst) (f : ℕ) (t : Thread) → depth_of t.work < deepest → call_on funcs f t ≡ enter funcs f (slice_get funcs f) t
call_on-enter funcs f t h = ap (λ b. cond b (enter funcs f (slice_get funcs f) t) (TooDeep)) (lt-ltb _ _ h)

pub call_found : (funcs : List FuncInst) (f : ℕ) (t : Thread) → call_on funcs f t ≢ Stuck → depth_of t.work < deepest → f < length funcs
call_found funcs f t n h =
    ⊎_elim (λ lt. lt) (λ le. absurd (n (call_on-enter funcs f t h ∙ ap (λ o. enter funcs f o t) (slice_get_past funcs f le)))) (cases_lt f (length funcs))

pub call_room : (funcs : List FuncInst) (f : ℕ) (g : FuncInst) (t : Thread) → call_on funcs f t ≢ Stuck → depth_of t.work < deepest → slice_get funcs f ≡ Some g → length g.ty.params ≤ length t.operands
call_room funcs f g t n h e =
    ⊎_elim
    (λ lt. absurd (n (call_on-enter funcs f t h ∙ ap (λ o. enter funcs f o t) e ∙ ap (λ b. cond b (To (entered funcs f g t)) Stuck) (lt-leb _ _ lt))))
    (λ le. le)
    (cases_lt (length t.operands) (length g.ty.params))

pub call_enters : (funcs : List FuncInst) (f fn s next : ℕ) (g : FuncInst) (below here vs : List Value) (ms ms' : List Mark) (n base height floor : ℕ) (k : Option ValType) (frames : List Value × List Value) (vs' : List Value) → slice_get funcs f ≡ Some g → n ≡ length g.ty.params → n ≤ length vs → calls_in ms < deepest → base ≡ length below → k ≡ result_of g → frames ≡ (below ++ here, reverse (take n vs) ++ map default_of g.locals) → vs' ≡ drop n vs → height ≡ length vs' → ms' ≡ marks.Activation k height fn s next base floor ∷ ms → To (thread (record { function = f; locals = frames.1 }) vs' (rest_at funcs f 0 0 ++ items_of funcs f frames.0 ms')) ≡ call_on funcs f (thread (record { function = fn; locals = here }) vs (rest_at funcs fn s next ++ items_of funcs fn below ms))
call_enters funcs f fn s next g below here vs ms ms' n base height floor k frames vs' found n-is room shallow base-is keeps all vs-is height-is ms-is =
    let fr : Frame = record { function = fn; locals = here } in
    let w = rest_at funcs fn s next ++ items_of funcs fn below ms in
    let t = thread fr vs w in
    let fr' : Frame = record { function = f; locals = reverse (take n vs) ++ map default_of g.locals } in
    let deep : depth_of w < deepest = rw (depth_of_rest funcs fn s next below ms) shallow in
    let high : height ≡ length vs - length g.ty.params = omega (arith, ap length vs-is, length-drop n vs) in
    let back : take base (below ++ here) ≡ below = ap (λ k. take k (below ++ here)) base-is ∙ take-append_seam below here in
    let mine : drop base (below ++ here) ≡ here = ap (λ k. drop k (below ++ here)) base-is ∙ drop-append_seam below here in
    ap (λ (x : List Value × List Value). To (thread (record { function = f; locals = x.1 }) vs' (rest_at funcs f 0 0 ++ items_of funcs f x.0 ms'))) all
    ∙ ap (λ x. To (thread fr' vs' (rest_at funcs f 0 0 ++ items_of funcs f (below ++ here) x))) ms-is
    ∙ ap (λ x. To (thread fr' vs' (rest_at funcs f 0 0 ++ Activation k height (record { function = fn; locals = x }) ∷ (rest_at funcs fn s next ++ items_of funcs fn (take base (below ++ here)) ms)))) mine
    ∙ ap (λ x. To (thread fr' vs' (rest_at funcs f 0 0 ++ Activation k height fr ∷ (rest_at funcs fn s next ++ items_of funcs fn x ms)))) back
    ∙ ap (λ x. To (thread fr' vs' (rest_at funcs f 0 0 ++ Activation x height fr ∷ w))) keeps
    ∙ ap (λ x. To (thread fr' vs' (rest_at funcs f 0 0 ++ Activation (result_of g) x fr ∷ w))) high
    ∙ ap (λ x. To (thread fr' x (rest_at funcs f 0 0 ++ Activation (result_of g) (length vs - length g.ty.params) fr ∷ w))) vs-is
    ∙ ap (λ k. To (thread (record { function = f; locals = reverse (take k vs) ++ map default_of g.locals }) (drop k vs) (rest_at funcs f 0 0 ++ Activation (result_of g) (length vs - length g.ty.params) fr ∷ w))) n-is
    ∙ sym (call_on-enter funcs f t deep
    ∙ ap (λ o. enter funcs f o t) found
    ∙ ap (λ b. cond b (To (entered funcs f g t)) Stuck) (le-leb _ _ (subst (λ k. k ≤ length vs) n-is room)))

pub arguments_more : (i n : ℕ) (vs : List Value) (v : Value) → i < n → n ≤ length vs → slice_get vs (n - 1 - i) ≡ Some v → reverse (drop (n - (i + 1)) (take n vs)) ≡ reverse (drop (n - i) (take n vs)) ++ v ∷ []
arguments_more i n vs v lt le e =
    let k = n - 1 - i in
    let t = take n vs in
    let long = length-take-le n vs le in
    let here : k < n = omega arith in
    let one = get_or-take n vs k v here ∙ get_or_from_slice_get vs k v v e in
    let a : n - (i + 1) ≡ k = omega arith in
    let b : suc k ≡ n - i = omega arith in
    ap (λ j. reverse (drop j t)) a
    ∙ ap reverse (drop-cons t k v (omega arith) ∙ ap (λ x. x ∷ drop (suc k) t) one)
    ∙ reverse-append (v ∷ []) (drop (suc k) t)
    ∙ ap (λ j. reverse (drop j t) ++ v ∷ []) b

many_more : (n : ℕ) (ty : ValType) (types : List ValType) → replicate n (default_of ty) ++ map default_of types ≡ map default_of (replicate n ty ++ types)
many_more zero ty types = refl
many_more (suc n) ty types = ap (λ l. default_of ty ∷ l) (many_more n ty types)

take_many : (m k : ℕ) (ty : ValType) (types : List ValType) → take m (replicate k ty ++ types) ≡ replicate (min k m) ty ++ take (m - k) types
take_many m zero ty types = let a : min zero m ≡ zero = omega arith in let b : m - zero ≡ m = omega arith in ap (λ n. take n types) (sym b) ∙ ap (λ n. replicate n ty ++ take (m - zero) types) (sym a)
take_many zero (suc k) ty types = let a : min (suc k) zero ≡ zero = omega arith in let b : zero - suc k ≡ zero = omega arith in ap (λ n. take n types) (sym b) ∙ ap (λ n. replicate n ty ++ take (zero - suc k) types) (sym a)
take_many (suc m) (suc k) ty types =
    let a : min (suc k) (suc m) ≡ suc (min k m) = omega arith in
    let b : suc m - suc k ≡ m - k = omega arith in
    ap (λ l. ty ∷ l) (take_many m k ty types) ∙ ap (λ n. replicate n ty ++ take (m - k) types) (sym a) ∙ ap (λ n. replicate (min (suc k) (suc m)) ty ++ take n types) (sym b)

-- the locals of one more run, of the first so many
pub locals_more : (most : ℕ) (runs : List Run) (i from : ℕ) (run d : Run) (v : Value) (vs : List Value) → i < length runs → run ≡ get_or runs i d → v ≡ default_of run.ty → from < run.end → (vs ++ replicate (min run.end most - from) v) ++ map default_of (take (most - run.end) (types_of run.end (drop (i + 1) runs))) ≡ vs ++ map default_of (take (most - from) (types_of from (drop i runs)))
locals_more most runs i from run d v vs within read default rises =
    let one : suc i ≡ i + 1 = omega arith in
    let rest = types_of run.end (drop (i + 1) runs) in
    let here : drop i runs ≡ run ∷ drop (i + 1) runs = drop-cons runs i d within ∙ (ap (λ (r : Run). r ∷ drop (suc i) runs) (sym read) ∙ ap (λ k. run ∷ drop k runs) one) in
    let a : min run.end most - from ≡ min (run.end - from) (most - from) = omega (arith, rises) in
    let b : most - run.end ≡ most - from - (run.end - from) = omega (arith, rises) in
    append_assoc vs (replicate (min run.end most - from) v) (map default_of (take (most - run.end) rest))
    ∙ ap (λ l. vs ++ l)
    (ap (λ x. replicate (min run.end most - from) x ++ map default_of (take (most - run.end) rest)) default
    ∙ many_more (min run.end most - from) run.ty (take (most - run.end) rest)
    ∙ ap (λ n. map default_of (replicate n run.ty ++ take (most - run.end) rest)) a
    ∙ ap (λ n. map default_of (replicate (min (run.end - from) (most - from)) run.ty ++ take n rest)) b
    ∙ ap (map default_of) (sym (take_many (most - from) (run.end - from) run.ty rest))
    ∙ sym (ap (λ l. map default_of (take (most - from) (types_of from l))) here))

pub rises_on : (runs : List Run) (i from : ℕ) (run d : Run) → i < length runs → run ≡ get_or runs i d → Rise from (drop i runs) → (from < run.end) × Rise run.end (drop (i + 1) runs)
rises_on runs i from run d within read rise =
    let one : suc i ≡ i + 1 = omega arith in
    let here : drop i runs ≡ run ∷ drop (i + 1) runs = drop-cons runs i d within ∙ (ap (λ (r : Run). r ∷ drop (suc i) runs) (sym read) ∙ ap (λ k. run ∷ drop k runs) one) in
    subst (Rise from) here rise

-- ---- the start

pub start_is : (funcs : List FuncInst) (f : ℕ) (g : FuncInst) (vs : List Value) (frames0 frames : List Value × List Value) (ms ms0 : List Mark) (base floor : ℕ) (k : Option ValType) → frames0 ≡ ([], []) → frames ≡ (frames0.0 ++ frames0.1, map default_of g.locals) → ms0 ≡ [] → ms ≡ marks.Activation k 0 (length funcs) 0 0 base floor ∷ ms0 → base ≡ length frames0.0 → k ≡ result_of g → vs ≡ [] → thread (record { function = f; locals = frames.1 }) vs (rest_at funcs f 0 0 ++ items_of funcs f frames.0 ms) ≡ started funcs f g
start_is funcs f g vs frames0 frames ms ms0 base floor k e0 e1 m0 m b keeps v =
    let fr : Frame = record { function = f; locals = map default_of g.locals } in
    let no : Frame = record { function = length funcs; locals = [] } in
    let all : frames ≡ ([], map default_of g.locals) = e1 ∙ ap (λ (x : List Value × List Value). (x.0 ++ x.1, map default_of g.locals)) e0 in
    let zero_base : base ≡ 0 = b ∙ ap (λ (x : List Value × List Value). length x.0) e0 in
    let bottom : ms ≡ marks.Activation k 0 (length funcs) 0 0 0 floor ∷ [] = m ∙ ap (λ l. marks.Activation k 0 (length funcs) 0 0 base floor ∷ l) m0 ∙ ap (λ j. marks.Activation k 0 (length funcs) 0 0 j floor ∷ []) zero_base in
    let nothing : rest_at funcs (length funcs) 0 0 ≡ [] = ap dos (no_function funcs (length funcs) 0 (omega arith)) in
    ap (λ (x : List Value × List Value). thread (record { function = f; locals = x.1 }) vs (rest_at funcs f 0 0 ++ items_of funcs f x.0 ms)) all
    ∙ ap (λ l. thread fr vs (rest_at funcs f 0 0 ++ items_of funcs f [] l)) bottom
    ∙ ap (λ l. thread fr l (rest_at funcs f 0 0 ++ Activation k 0 no ∷ (rest_at funcs (length funcs) 0 0 ++ []))) v
    ∙ ap (λ l. thread fr [] (rest_at funcs f 0 0 ++ Activation k 0 no ∷ (l ++ []))) nothing
    ∙ ap (λ x. thread fr [] (rest_at funcs f 0 0 ++ Activation x 0 no ∷ [])) keeps

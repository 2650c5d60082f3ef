-- What holds of tokens by their pieces: that parentheses are not too deep from a depth on, and that no type use differs from the
-- type field that it names, since none writes a type. How each piece goes on to those behind it.
use Rattle.std.proofs.Common.{◌≡◌, ℕ, suc, ◌+◌, ◌-◌, ◌<◌, Bool, true, false, List, [], ◌∷◌, Option, Some, None, Result, Ok, Err, length, refl, sym, ap, subst, ◌∙◌, arith, lt-ltb}
use Rattle.std.specs.Prelude.{decimal}
use Rattle.std.specs.Str.{bytes_eq}
use Rattle.ms_bytes.specs.Format.{Format}
use Rattle.ms_bytes.specs.Runs.{Runs, goes, rests}
use Rattle.ms_text_lex.specs.declared.token.Kind.{Kind}
use Rattle.ms_text_lex.specs.declared.token.Kind.TheVariants.{Close, Keyword, Number, Open}
use Rattle.ms_text_lex.specs.declared.token.Token.{Token}
use Rattle.ms_text_lex.specs.Tokens.{text_of}
use Rattle.ms_text_grammar.specs.declared.fault.TextFault.{TextFault}
use Rattle.ms_text_grammar.specs.declared.placed.Placed.{Placed}
use Rattle.ms_text_grammar.specs.declared.surface.Index.{Index}
use Rattle.ms_text_grammar.specs.declared.surface.TypeField.{TypeField}
use Rattle.ms_text_grammar.specs.declared.surface.TypeUse.{TypeUse}
use Rattle.ms_text_grammar.specs.declared.word.Word.{Word}
use Rattle.ms_text_grammar.specs.declared.word.Word.TheVariants as word
use Rattle.ms_text_grammar.specs.Tokens.{begins, is_close, is_id, is_open}
use Rattle.ms_text_grammar.specs.Keywords.{spelling}
use Rattle.ms_text_write.specs.refinement.Limits.{most_parens}
use Rattle.ms_text_grammar.specs.Numbers.{index, index_by, number as read_number}
use Rattle.ms_text_grammar.specs.Parts.{groups}
use Rattle.ms_text_grammar.specs.Scans.{and_all, differing, is_other, ok_value, placed, tail_of, too_deep, uses_in}
use Rattle.ms_text_grammar.specs.Shapes.{is_written}
use Rattle.ms_text_grammar.specs.TypeUses.{field_at, index_in}
use Rattle.ms_text_grammar.specs.Types.{params, results, type_ref, type_ref_by, type_use}
use Rattle.ms_text_write.proofs.Pieces.{Piece, Shows, left, more, none, number, right, the}

pub record Held (depth : ℕ) (ps : List Piece) : Type 0 where
  pub shallow : (source : List ℕ) (ts : List Token) → Shows source ts ps → too_deep most_parens depth ts ≡ None
  pub calm : (source : List ℕ) (ts : List Token) → Shows source ts ps → (fs : List TypeField) → differing source fs (uses_in source ts) ≡ None

-- ... where no parameters or results stand in front
pub record Free (depth : ℕ) (ps : List Piece) : Type 0 where
  pub held : Held depth ps
  pub no_param : (source : List ℕ) (ts : List Token) → Shows source ts ps → begins source word.Param ts ≡ false
  pub no_result : (source : List ℕ) (ts : List Token) → Shows source ts ps → begins source word.Result ts ≡ false

-- ---- what tokens begin with

begins_no : (source : List ℕ) (w : Word) (t : Token) (ts : List Token) (kind : Kind) → t.kind ≡ kind → is_open kind ≡ false → begins source w (t ∷ ts) ≡ false
begins_no source w t ts kind k o = rw (k, o) refl

begins_by : (source : List ℕ) (v w : Word) (t u : Token) (ts : List Token) → t.kind ≡ Open → u.kind ≡ Keyword → text_of source u ≡ spelling w
    → begins source v (t ∷ u ∷ ts) ≡ bytes_eq (spelling w) (spelling v)
begins_by source v w t u ts k l x = rw (k, l) (ap (λ (y : List ℕ). bytes_eq y (spelling v)) x)

-- ---- depths

opens_deep : (d : ℕ) (t : Token) (ts : List Token) → t.kind ≡ Open → d < most_parens → too_deep most_parens (suc d) ts ≡ None → too_deep most_parens d (t ∷ ts) ≡ None
opens_deep d t ts k h e = rw (k, lt-ltb d most_parens h) e

closes_deep : (d : ℕ) (t : Token) (ts : List Token) → t.kind ≡ Close → too_deep most_parens d ts ≡ None → too_deep most_parens (suc d) (t ∷ ts) ≡ None
closes_deep d t ts k e = let s : suc d - 1 ≡ d = omega arith in rw (k, s) e

stays_deep : (d : ℕ) (t : Token) (ts : List Token) (kind : Kind) → t.kind ≡ kind → is_open kind ≡ false → is_close kind ≡ false → too_deep most_parens d ts ≡ None
    → too_deep most_parens d (t ∷ ts) ≡ None
stays_deep d t ts kind k o c e = rw (k, o, c) e

-- ---- type uses

module _ (source : List ℕ) where
  passed_by : (t : Token) (ts : List Token) (fs : List TypeField) → begins source word.Type (t ∷ ts) ≡ false → differing source fs (uses_in source ts) ≡ None
      → differing source fs (uses_in source (t ∷ ts)) ≡ None
  passed_by t ts fs b e = rw b e

  other_no : (o : Option TypeField) (u : TypeUse) → is_written u ≡ false → is_other o u ≡ false
  other_no None u e = refl
  other_no (Some f) u e = rw e refl

  used : (at : ℕ) (fs : List TypeField) (us : List Placed) (r : Result (TypeUse × List Token) TextFault)
      → ((u : TypeUse) (m : List Token) → r ≡ Ok (u, m) → is_written u ≡ false) → differing source fs us ≡ None
      → differing source fs (and_all (placed at (ok_value r)) us) ≡ None
  used at fs us (Err e) h more' = more'
  used at fs us (Ok x) h more' = rw (other_no (field_at fs (index_in source fs x.0.sig)) x.0 (h x.0 x.1 refl)) more'

  -- a type use that writes nothing, wherever it is one
  use_passed : (t : Token) (ts : List Token) (fs : List TypeField)
      → ((u : TypeUse) (m : List Token) → (type_use source).spelled (t ∷ ts) u m → is_written u ≡ false)
      → begins source word.Type (t ∷ ts) ≡ true → differing source fs (uses_in source ts) ≡ None → differing source fs (uses_in source (t ∷ ts)) ≡ None
  use_passed t ts fs h b e =
      rw b
      (used t.at fs (uses_in source ts) ((type_use source).read (length source) (t ∷ ts))
      (λ u m q. h u m ((type_use source).takes (length source) (t ∷ ts) u m q)) e)

-- a run that has no step to take
rests_there : {A : Type 0} {going : A → List Token → Bool} {step : A → Format Token TextFault A} {st last : A} {s u : List Token}
    → Runs going step st s last u → going st s ≡ false → (last ≡ st) × (u ≡ s)
rests_there (rests h) e = (refl, refl)
rests_there (goes next g h r) e = absurd (let x = sym g ∙ e in cc)

-- ---- where a type is named

abbrev head_or : Token → List Token → Token
head_or t [] = t
head_or t (u ∷ us) = u

module _ (source : List ℕ) where
  -- behind `(type`, an index and a parenthesis
  named : (t u : Token) (s : List Token) → begins source word.Type (t ∷ u ∷ s) ≡ true → (sig : Option Index) (m : List Token) → (type_ref source).spelled (t ∷ u ∷ s) sig m
      → (x : Index) × (n : List Token) × (index source).spelled s x n × (tail_of n ≡ m)
  unfolding type_ref type_ref_by
  named t u s b sig m h =
      let r = subst (λ (c : Bool). (type_ref_by source c).spelled (t ∷ u ∷ s) sig m) b h in
      let first : u ∷ s ≡ r.1 = ap tail_of r.2.1 in
      let second : s ≡ r.3.1 = ap tail_of first ∙ ap tail_of r.3.2.1 in
      let i = subst (λ (l : List Token). (index source).spelled l r.3.3.0 r.3.3.1) (sym second) r.3.3.2 in
      (r.3.3.0, r.3.3.1, i, ap tail_of r.3.3.3.2.1 ∙ r.3.3.3.3.1)

  number_taken : (t : Token) (s : List Token) → is_id t.kind ≡ false → (x : Index) (n : List Token) → (index source).spelled (t ∷ s) x n → s ≡ n
  unfolding index index_by read_number
  number_taken t s k x n h =
      let i = subst (λ (c : Bool). (index_by source c).spelled (t ∷ s) x n) k h in
      ap tail_of i.2.1 ∙ i.3.1

  no_number : (t : Token) (s : List Token) → t.kind ≡ Open → (x : Index) (n : List Token) → (index source).spelled (t ∷ s) x n → ⊥
  unfolding index index_by read_number
  no_number t s k x n h =
      let i = subst (λ (c : Kind). (index_by source (is_id c)).spelled (t ∷ s) x n) k h in
      let same : t ≡ i.2.0 = ap (head_or t) i.2.1 in
      let kind : i.2.0.kind ≡ Open = ap (λ (v : Token). v.kind) (sym same) ∙ k in
      let refused = rw kind at i.2.2 in
      cc

-- ---- a type use that writes no type

module _ (source : List ℕ) (t u : Token) (b : (s : List Token) → begins source word.Type (t ∷ u ∷ s) ≡ true) where
  by_number : (n c : Token) (s : List Token) → is_id n.kind ≡ false → begins source word.Param s ≡ false → begins source word.Result s ≡ false
      → (w : TypeUse) (m : List Token) → (type_use source).spelled (t ∷ u ∷ n ∷ c ∷ s) w m → is_written w ≡ false
  unfolding type_use params results groups
  by_number n c s k no_param no_result w m h =
      let i = named source t u (n ∷ c ∷ s) (b (n ∷ c ∷ s)) h.0 h.1 h.2 in
      let behind : s ≡ h.1 = ap tail_of (number_taken source n (c ∷ s) k i.0 i.1 i.2) ∙ i.3 in
      let ps = rests_there h.3.2 (subst (λ (l : List Token). begins source word.Param l ≡ false) behind no_param) in
      let after : s ≡ h.3.1 = behind ∙ sym ps.1 in
      let rs = rests_there h.3.3.2 (subst (λ (l : List Token). begins source word.Result l ≡ false) after no_result) in
      rw (h.3.3.3.0, ps.0, rs.0) refl

  by_parenthesis : (n : Token) (s : List Token) → n.kind ≡ Open → (w : TypeUse) (m : List Token) → (type_use source).spelled (t ∷ u ∷ n ∷ s) w m → is_written w ≡ false
  unfolding type_use
  by_parenthesis n s k w m h =
      let i = named source t u (n ∷ s) (b (n ∷ s)) h.0 h.1 h.2 in
      absurd (no_number source n s k i.0 i.1 i.2)

-- ---- pieces, and those behind them

-- what holds of the first token and those behind it
by_first : {source : List ℕ} {ts : List Token} {p : Piece} {qs : List Piece} (P : List Token → Type 0) → Shows source ts (p ∷ qs)
    → ((t : Token) (us : List Token) → t.kind ≡ p.kind → text_of source t ≡ p.text → Shows source us qs → P (t ∷ us)) → P ts
by_first P (more t us p qs k x r) f = f t us k x r

opens_with : (source : List ℕ) (v w : Word) (t : Token) (us : List Token) (qs : List Piece) → t.kind ≡ Open → Shows source us (the w ∷ qs)
    → begins source v (t ∷ us) ≡ bytes_eq (spelling w) (spelling v)
opens_with source v w t us qs k r = by_first (λ l. begins source v (t ∷ l) ≡ bytes_eq (spelling w) (spelling v)) r (λ u vs m y q. begins_by source v w t u vs k m y)

-- nothing
at_end : {source : List ℕ} {ts : List Token} (P : List Token → Type 0) → Shows source ts [] → P [] → P ts
at_end P none h = h

pub ended : (d : ℕ) → Held d []
ended d = record {
  shallow = λ source ts s. at_end (λ l. too_deep most_parens d l ≡ None) s refl;
  calm = λ source ts s fs. at_end (λ l. differing source fs (uses_in source l) ≡ None) s refl;
}

-- a word, a number or a string
pub leaf : {d : ℕ} {qs : List Piece} (kind : Kind) (text : List ℕ) → is_open kind ≡ false → is_close kind ≡ false → Held d qs → Free d (record { kind = kind; text = text } ∷ qs)
leaf {d} {qs} kind text o c h = record {
  held = record {
    shallow = λ source ts s. by_first (λ l. too_deep most_parens d l ≡ None) s (λ t us k x r. stays_deep d t us kind k o c (h.shallow source us r));
    calm = λ source ts s fs.
        by_first (λ l. differing source fs (uses_in source l) ≡ None) s (λ t us k x r. passed_by source t us fs (begins_no source word.Type t us kind k o) (h.calm source us r fs));
  };
  no_param = λ source ts s. by_first (λ l. begins source word.Param l ≡ false) s (λ t us k x r. begins_no source word.Param t us kind k o);
  no_result = λ source ts s. by_first (λ l. begins source word.Result l ≡ false) s (λ t us k x r. begins_no source word.Result t us kind k o);
}

pub closed : {d : ℕ} {qs : List Piece} → Held d qs → Free (suc d) (right ∷ qs)
closed {d} {qs} h = record {
  held = record {
    shallow = λ source ts s. by_first (λ l. too_deep most_parens (suc d) l ≡ None) s (λ t us k x r. closes_deep d t us k (h.shallow source us r));
    calm = λ source ts s fs.
        by_first (λ l. differing source fs (uses_in source l) ≡ None) s (λ t us k x r. passed_by source t us fs (begins_no source word.Type t us Close k refl) (h.calm source us r fs));
  };
  no_param = λ source ts s. by_first (λ l. begins source word.Param l ≡ false) s (λ t us k x r. begins_no source word.Param t us Close k refl);
  no_result = λ source ts s. by_first (λ l. begins source word.Result l ≡ false) s (λ t us k x r. begins_no source word.Result t us Close k refl);
}

-- ---- parentheses

pub opened_held : {d : ℕ} {qs : List Piece} (w : Word) → bytes_eq (spelling w) (spelling word.Type) ≡ false → d < most_parens → Held (suc d) qs → Held d (left ∷ the w ∷ qs)
opened_held {d} {qs} w no_type room h =
    let inner = (leaf Keyword (spelling w) refl refl h).held in
    record {
      shallow = λ source ts s. by_first (λ l. too_deep most_parens d l ≡ None) s (λ t us k x r. opens_deep d t us k room (inner.shallow source us r));
      calm = λ source ts s fs.
          by_first (λ l. differing source fs (uses_in source l) ≡ None) s
          (λ t us k x r. passed_by source t us fs (opens_with source word.Type w t us qs k r ∙ no_type) (inner.calm source us r fs));
    }

pub opened_free : {d : ℕ} {qs : List Piece} (w : Word) → bytes_eq (spelling w) (spelling word.Type) ≡ false → bytes_eq (spelling w) (spelling word.Param) ≡ false
    → bytes_eq (spelling w) (spelling word.Result) ≡ false → d < most_parens → Held (suc d) qs → Free d (left ∷ the w ∷ qs)
opened_free {d} {qs} w no_type no_param no_result room h = record {
  held = opened_held w no_type room h;
  no_param = λ source ts s. by_first (λ l. begins source word.Param l ≡ false) s (λ t us k x r. opens_with source word.Param w t us qs k r ∙ no_param);
  no_result = λ source ts s. by_first (λ l. begins source word.Result l ≡ false) s (λ t us k x r. opens_with source word.Result w t us qs k r ∙ no_result);
}

-- behind `(type` nothing is a type use that writes a type
abbrev Unwritten : List Piece → Type 0
Unwritten qs =
    (source : List ℕ) (t u : Token) (us : List Token) → ((s : List Token) → begins source word.Type (t ∷ u ∷ s) ≡ true) → Shows source us qs
    → (w : TypeUse) (m : List Token) → (type_use source).spelled (t ∷ u ∷ us) w m → is_written w ≡ false

named_free : {d : ℕ} {qs : List Piece} → d < most_parens → Held (suc d) qs → Unwritten qs → Free d (left ∷ the word.Type ∷ qs)
named_free {d} {qs} room h no_type =
    let inner = (leaf Keyword (spelling word.Type) refl refl h).held in
    record {
      held = record {
        shallow = λ source ts s. by_first (λ l. too_deep most_parens d l ≡ None) s (λ t us k x r. opens_deep d t us k room (inner.shallow source us r));
        calm = λ source ts s fs.
            by_first (λ l. differing source fs (uses_in source l) ≡ None) s
            (λ t us k x r.
            use_passed source t us fs
            (by_first (λ l. (w : TypeUse) (m : List Token) → (type_use source).spelled (t ∷ l) w m → is_written w ≡ false) r
            (λ u vs n y q. no_type source t u vs (λ v. begins_by source word.Type word.Type t u v k n y) q))
            (opens_with source word.Type word.Type t us qs k r) (inner.calm source us r fs));
      };
      no_param = λ source ts s. by_first (λ l. begins source word.Param l ≡ false) s (λ t us k x r. opens_with source word.Param word.Type t us qs k r);
      no_result = λ source ts s. by_first (λ l. begins source word.Result l ≡ false) s (λ t us k x r. opens_with source word.Result word.Type t us qs k r);
    }

-- a type by its index
pub type_named : {d : ℕ} {qs : List Piece} (x : ℕ) → d < most_parens → Free d qs → Free d (left ∷ the word.Type ∷ number x ∷ right ∷ qs)
type_named x room free =
    named_free room (leaf Number (decimal x) refl refl (closed free.held).held).held
    (λ source t u us b s w m.
    by_first (λ l. (type_use source).spelled (t ∷ u ∷ l) w m → is_written w ≡ false) s
    (λ n vs k y q.
    by_first (λ l. (type_use source).spelled (t ∷ u ∷ n ∷ l) w m → is_written w ≡ false) q
    (λ c rest l z r. by_number source t u b n c rest (ap is_id k) (free.no_param source rest r) (free.no_result source rest r) w m)))

-- a type field
pub type_begun : {d : ℕ} {qs : List Piece} (w : Word) → bytes_eq (spelling w) (spelling word.Type) ≡ false → d + 1 < most_parens → Held (suc (suc d)) qs
    → Free d (left ∷ the word.Type ∷ left ∷ the w ∷ qs)
type_begun w no_type room h =
    named_free (omega arith) (opened_held w no_type (omega arith) h)
    (λ source t u us b s v m. by_first (λ l. (type_use source).spelled (t ∷ u ∷ l) v m → is_written v ≡ false) s (λ n vs k y q. by_parenthesis source t u b n vs k v m))

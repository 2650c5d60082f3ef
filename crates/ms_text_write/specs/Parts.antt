-- The parts of a text as it is written (WebAssembly 1.0, 6.2 and 6.3): words behind a parenthesis, indices, strings.
use Rattle.std.specs.Prelude.{ℕ, ◌+◌, ◌/◌, ◌%◌, ◌==◌, ◌&&◌, Bool, not, nat_le, nat_lt, List, [], ◌∷◌, ◌++◌, codes, decimal, if◌then◌else◌}
use Rattle.std.specs.List.{flat_map}
use Rattle.ms_text_grammar.specs.declared.word.Word.{Word}
use Rattle.ms_text_grammar.specs.Keywords.{spelling}

-- a word behind the parenthesis that it opens
abbrev pub opened : Word → List ℕ
opened w = codes "(" ++ spelling w

-- items, each behind a lead
abbrev pub behind : {A : Type 0} → List ℕ → (A → List ℕ) → List A → List ℕ
behind lead text xs = flat_map (λ x. lead ++ text x) xs

-- items, each behind a space
abbrev pub spaced : {A : Type 0} → (A → List ℕ) → List A → List ℕ
spaced text xs = behind (codes " ") text xs

-- a word and an index in parentheses
unfoldable pub indexed : Word → ℕ → List ℕ
indexed w x = opened w ++ (codes " " ++ (decimal x ++ codes ")"))

-- ---- strings (6.3.3)

-- 20 to 7E, but neither `"` nor `\`
abbrev pub is_itself : ℕ → Bool
is_itself b = nat_le 0x20 b && (nat_le b 0x7E && (not (b == 0x22) && not (b == 0x5C)))

-- `0` to `9` and `a` to `f`
abbrev pub hex_digit : ℕ → ℕ
hex_digit d = if nat_lt d 10 then 0x30 + d else 0x57 + d

-- a byte as itself, or `\` and two digits
abbrev pub byte_text : ℕ → List ℕ
byte_text b = if is_itself b then b ∷ [] else 0x5C ∷ hex_digit (b / 16) ∷ hex_digit (b % 16) ∷ []

-- bytes between quotes
unfoldable pub string_text : List ℕ → List ℕ
string_text bs = 0x22 ∷ (flat_map byte_text bs ++ 0x22 ∷ [])

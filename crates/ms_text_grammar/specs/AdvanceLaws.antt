-- Each turn of a body takes a token.
use Rattle.std.specs.Prelude.{◌≤◌, ℕ, Bool, true, false, List, [], ◌∷◌, Option}
use Rattle.std.proofs.Common.{arith}
use Rattle.ms_text_lex.specs.declared.token.Token.{Token}
use Rattle.ms_text_grammar.specs.declared.frame.Frame.{Frame}
use Rattle.ms_text_grammar.specs.declared.frame.Frame.TheVariants.{Arm, Condition, Flat, Folded, Operands, Other, Then}
use Rattle.ms_text_grammar.specs.declared.frame.Sign.{Sign}
use Rattle.ms_text_grammar.specs.declared.frame.Sign.TheVariants as sign
use Rattle.ms_text_grammar.specs.Instructions.{instruction}
use Rattle.ms_text_grammar.specs.Advances.{State, closed, condition, else_arm, ended, flat_block, flat_else, flat_plain, folded, framed, heading, instructions, marked, advance_on}

-- what holds something else than instructions
abbrev pub IsBracket : Frame → Type 0
IsBracket (Flat label may_else) = ⊥
IsBracket Folded = ⊥
IsBracket Arm = ⊥
IsBracket _ = Unit {0}

module _ (source : List ℕ) (most : ℕ) where
  instructions_least : (st after : State) (s : Sign) → 1 ≤ (instructions source most st after s).least
  unfolding instructions folded flat_block heading closed flat_plain instruction
  instructions_least st after sign.Left = omega arith
  instructions_least st after sign.Right = omega arith
  instructions_least st after sign.Ends = omega arith
  instructions_least st after sign.Elses = omega arith
  instructions_least st after sign.Thens = omega arith
  instructions_least st after (sign.Heads o) = omega arith
  instructions_least st after sign.Other = omega arith

  flat_else_least : (label : Option Token) (may : Bool) (fs : List Frame) (st : State) → 1 ≤ (flat_else source most label may fs st).least
  unfolding flat_else marked
  flat_else_least label true fs st = omega arith
  flat_else_least label false fs st = omega arith

  flat_least : (label : Option Token) (may : Bool) (st : State) (fs : List Frame) (s : Sign) → 1 ≤ (advance_on source most st (Flat label may ∷ fs) s).least
  unfolding advance_on folded flat_block heading marked flat_plain instruction
  flat_least label may st fs sign.Left = omega arith
  flat_least label may st fs sign.Right = omega arith
  flat_least label may st fs sign.Ends = omega arith
  flat_least label may st fs sign.Elses = flat_else_least label may fs st
  flat_least label may st fs sign.Thens = omega arith
  flat_least label may st fs (sign.Heads o) = omega arith
  flat_least label may st fs sign.Other = omega arith

  bracket_least : (f : Frame) (st : State) (fs : List Frame) (s : Sign) → IsBracket f → 1 ≤ (advance_on source most st (f ∷ fs) s).least
  unfolding advance_on folded condition else_arm closed
  bracket_least (Operands p) st fs sign.Left h = omega arith
  bracket_least (Operands p) st fs _ h = omega arith
  bracket_least (Condition label ty) st fs sign.Left h = omega arith
  bracket_least (Condition label ty) st fs _ h = omega arith
  bracket_least Then st fs sign.Left h = omega arith
  bracket_least Then st fs _ h = omega arith
  bracket_least Other st fs _ h = omega arith
  bracket_least (Flat label may) st fs s h = absurd h
  bracket_least Folded st fs s h = absurd h
  bracket_least Arm st fs s h = absurd h

  pub advance_on_least : (st : State) (fs : List Frame) (s : Sign) → 1 ≤ (advance_on source most st fs s).least
  unfolding advance_on
  advance_on_least st [] s = instructions_least st st s
  advance_on_least st (Flat label may ∷ fs) s = flat_least label may st fs s
  advance_on_least st (Folded ∷ fs) s = instructions_least st (ended fs st) s
  advance_on_least st (Arm ∷ fs) s = instructions_least st (framed fs st) s
  advance_on_least st (Operands p ∷ fs) s = bracket_least (Operands p) st fs s tt
  advance_on_least st (Condition label ty ∷ fs) s = bracket_least (Condition label ty) st fs s tt
  advance_on_least st (Then ∷ fs) s = bracket_least Then st fs s tt
  advance_on_least st (Other ∷ fs) s = bracket_least Other st fs s tt

  pub folded_least : (st : State) → 1 ≤ (folded source most st).least
  unfolding folded
  folded_least st = omega arith

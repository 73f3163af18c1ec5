-- The worked examples of document 01, P1 to P8, and one of document 02 on small links, shown of the definitions by one statement over
-- one list, which the checker computes.
use Prim.Native.Nat.{ℕ, ◌+◌, ◌-◌}
use mathlib.Core.Bool.{Bool, true, false, cond, ◌&&◌}
use mathlib.Core.List.{List, [], ◌∷◌, ◌++◌, map}
use mathlib.Core.Path.{◌≡◌, refl}
use lib.Dec.{eqb}
use lib.ListN.{length}
use Rattle.wire.specs.Numbers.{byte_at}
use Rattle.clock.specs.Clock.{start_of, arrival_of}
use Rattle.unix.specs.Unix.{unix_of}
use Rattle.clock.specs.Readings.{issues, times}
use Rattle.header.specs.Format.{code_offset}
use Rattle.message.specs.Blocks.{standards, standard_count}
use Rattle.yard.specs.Walk.{Walk}
use Rattle.text.specs.Text.{text_of}
use Rattle.worked.specs.Example.{address, linked_routers, traced_in, traced, paper_input, paper_text}
use Rattle.worked.proofs.Opened.{opened}
use Rattle.format.specs.Sizes.{ipv4}

-- an example: its number, what the definitions give, what the paper says
pub record Example : Type 0 where
  pub number : ℕ
  pub got : List ℕ
  pub said : List ℕ

abbrev pub example : ℕ → List ℕ → List ℕ → Example
example number got said = record { number = number; got = got; said = said }

abbrev pub same : List ℕ → List ℕ → Bool
same [] [] = true
same [] (y ∷ ys) = false
same (x ∷ xs) [] = false
same (x ∷ xs) (y ∷ ys) = eqb x y && same xs ys

-- the numbers of the examples that fail
abbrev pub failing : List Example → List ℕ
failing [] = []
failing (e ∷ es) = let rest = failing es in let here = e.number ∷ rest in cond (same e.got e.said) rest here

-- of a walk: its end and steps, the blocks and the length of the last message
abbrev pub summary : Walk → List ℕ
summary w = w.end ∷ length w.visits ∷ standard_count ipv4 w.last ∷ length w.last ∷ []

-- of the last message: its codes
abbrev pub codes_of : Walk → List ℕ
codes_of w = map (λ (at : ℕ). byte_at w.last (at + code_offset)) (standards ipv4 w.last)

-- P1 the walk, by the text that is printed for it. P2 router 1's upstream made 198.51.100.1. P3 the same with hops 255, and its last code. P4 hops 1,
-- P5 hops 0. P6 a clock from 1000. P7 UNIX 0, low 32 bits. P8 the parts that 999999999 ns give. 102: P3 with MTU 576 on all links, and its last code
unfoldable pub examples : List Example
examples =
    let loop = address 198 51 100 1 in
    let full = traced loop 255 in
    let small = traced_in (linked_routers 576 576 loop) 255 in
    example 1 (text_of paper_input) paper_text
    ∷ example 2 (summary (traced loop 10) ++ codes_of (traced loop 10)) (101 ∷ 10 ∷ 10 ∷ 540 ∷ 0 ∷ 0 ∷ 9 ∷ 0 ∷ 9 ∷ 0 ∷ 9 ∷ 0 ∷ 9 ∷ 0 ∷ [])
    ∷ example 3 (summary full ++ (byte_at full.last 1423 ∷ [])) (101 ∷ 28 ∷ 27 ∷ 1424 ∷ 129 ∷ [])
    ∷ example 4 (summary (traced loop 1)) (101 ∷ 1 ∷ 1 ∷ 72 ∷ [])
    ∷ example 5 (summary (traced loop 0)) (8 ∷ 1 ∷ 0 ∷ 0 ∷ [])
    ∷ example 6 (times (issues (start_of 1000).clock (1010 ∷ 1000 ∷ 1004 ∷ 1016 ∷ 1024 ∷ [])))
    (1010 ∷ 1011 ∷ 1013 ∷ 1019 ∷ 1024 ∷ [])
    ∷ example 7 (arrival_of (unix_of 0 0).units ∷ []) (2122317824 ∷ [])
    ∷ example 8 (((unix_of 0 999999999).units - (unix_of 0 0).units) ∷ []) (65535 ∷ [])
    ∷ example 102 (summary small ++ (byte_at small.last 539 ∷ [])) (101 ∷ 11 ∷ 10 ∷ 540 ∷ 129 ∷ [])
    ∷ []

pub worked : failing examples ≡ []
unfolding opened examples
worked = refl

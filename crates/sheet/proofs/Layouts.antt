-- What the check finds, test by test: each way in which a sheet is not valid, and the layout of one that is.
use Prim.Native.Nat.{ℕ, ◌+◌, ◌-◌, ◌≤◌, ◌<◌}
use mathlib.Core.Bool.{Bool, true, false, not}
use mathlib.Core.List.{List}
use mathlib.Core.Path.{◌≡◌, refl, sym, ◌∙◌}
use native.Mathlib.Omega.{arith}
use lib.ListN.{length}
use borrow.Author.Tests.{le-leb, not-true, not-false}
use Rattle.wire.proofs.Laws.{wholes}
use Rattle.block.specs.Block.{block_size, entries_each}
use Rattle.format.specs.declared.Format.{Format}
use Rattle.interface.specs.Interface.{most_interfaces}
use Rattle.sheet_block.specs.Every.{every}
use Rattle.sheet.specs.Sheet.{most_blocks, sheet_size_ok, blocks, interface_blocks, entries_in, interfaces_in, routes_in, block_ok_with, block_ok_at, valid_sheet, counted, told_of}
use Rattle.sheet.specs.Inside.{Leading}
use Rattle.sheet.specs.declared.Layout.{Layout}
use Rattle.sheet.proofs.Valid.{Valid, valid}
use Rattle.sheet.proofs.Told.{told_cases}
use Rattle.sheet.proofs.Leading.{leading_all, leading_valid}
use Rattle.std.specs.Prelude.{Option, Some, None}

-- a sheet that cannot be valid
refused : (F : Format) (s : List ℕ) → (Valid F s → ⊥) → None ≡ told_of F s
refused F s no' = told_cases F (λ (o : Option Layout). None ≡ o) s (λ e. absurd (no' (valid F s e))) (λ e. refl)

-- what the code has found out, test by test
module _ (s : List ℕ) (size : Bool) (es : size ≡ sheet_size_ok (length s)) where
  pub bad_size : (F : Format) → not size ≡ true → None ≡ told_of F s
  unfolding told_of valid_sheet
  bad_size F h = rw (← es, not-true size h)

  module _ (h : not size ≡ false) where
    pub few_blocks : blocks s ≤ most_blocks
    few_blocks = (wholes block_size most_blocks (length s) (sym es ∙ not-false size h)).few

    module _ (m : ℕ) (lead : Leading s (blocks s) m) where
      pub few_first : 0 + m ≤ most_blocks
      few_first = omega (arith, lead.within, few_blocks)

      pub few_rest : m + (blocks s - m) ≤ most_blocks
      few_rest = omega (arith, lead.within, few_blocks)

      module _ (F : Format) where
        pub no_interface_block : m ≡ 0 → None ≡ told_of F s
        no_interface_block z = refused F s (λ v. omega (arith, v.some, leading_valid F s m lead v))

        module _ (some : m ≡ 0 → ⊥) (interfaces : ℕ) (ei : interfaces ≡ entries_in s (entries_each F.interface) 0 m) where
          interfaces_told : m ≡ interface_blocks s → interfaces ≡ interfaces_in F s
          unfolding interfaces_in
          interfaces_told e = ei ∙ rw e

          pub many_interfaces : most_interfaces < interfaces → None ≡ told_of F s
          many_interfaces k = refused F s (λ v. omega (arith, v.few, interfaces_told (leading_valid F s m lead v)))

          module _ (few : interfaces ≤ most_interfaces) (ok : Bool) (eo : ok ≡ every (block_ok_with F s m interfaces) (blocks s)) where
            told : m ≡ interface_blocks s → ok ≡ every (block_ok_at F s) (blocks s)
            told e = eo ∙ rw (← e, ← interfaces_told e)

            pub bad_block : not ok ≡ true → None ≡ told_of F s
            bad_block k = refused F s (λ v. let z : ◌≡◌ {A = ℕ} 0 1 = cc (told (leading_valid F s m lead v), v.all, not-true ok k) in omega arith)

            pub laid_out : (routes : ℕ) → routes ≡ entries_in s (entries_each F.route) m (blocks s - m) → not ok ≡ false
                → Some (record { blocks = m; interfaces = interfaces; routes = routes }) ≡ told_of F s
            unfolding told_of valid_sheet counted routes_in
            laid_out routes er k =
                let e : m ≡ interface_blocks s = leading_all F s m lead interfaces (sym eo ∙ not-false ok k) in
                let one : 1 ≤ interface_blocks s = omega arith in
                let f : interfaces_in F s ≤ most_interfaces = omega (arith, interfaces_told e) in
                let v : valid_sheet F s ≡ true = rw (← es, not-false size h, le-leb 1 (interface_blocks s) one, le-leb (interfaces_in F s) most_interfaces f) (sym (told e) ∙ not-false ok k) in
                rw (v, er, interfaces_told e, e)

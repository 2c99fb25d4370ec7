-- Four jobs of our own, worked by hand by the rules of document 01 and of document 02, CR 8, word by word: the strips once all
-- blocks are collected, the strips once all links are done, and the output. A last block is short in the first two, down and
-- right meet in the third, and links follow links in the fourth.
use Rattle.std.specs.Prelude.{List, [], ◌∷◌, ◌++◌, map, ℕ, zero, suc, ℤ, pos, replicate}
use Rattle.word.specs.Word.{residue}
use Rattle.plan.specs.declared.Pass.{Pass}
use Rattle.plan.specs.declared.Plan.{Plan}
use Rattle.plan.specs.Sizes.{needed_marks, needed_strips, needed_pixels}
use Rattle.passes.specs.Examples.{Example, minus}
use Rattle.filter.specs.PlanFilters.{pass_of, unchanged_pass, running_sum_pass, summed_area_passes, map_of}
use Rattle.task_words.specs.Writes.{collected, linked, finished}

-- ---- a job

-- The link of a pass of a block.
pub record StripLink : Type 0 where
  pub block : ℕ
  pub pass : ℕ

-- A plan, heights, all links that there are, in an order that their needs allow, and the words that are to be found: in the
-- strips after all collects and then after all links, where `unwritten` stands for what no task has written, and in the
-- output after all finishes.
pub record WorkedJob : Type 0 where
  pub plan : Plan
  pub heights : List ℤ
  pub links : List StripLink
  pub strips_collected : (unwritten : ℤ) → List ℤ
  pub strips_linked : (unwritten : ℤ) → List ℤ
  pub output_finished : List ℤ

-- The strips after collect of the first n blocks.
unfoldable pub after_collects : Plan → List ℤ → ℕ → List ℕ → List ℕ
after_collects plan heights zero strips = strips
after_collects plan heights (suc k) strips = collected plan (map_of plan heights) k (after_collects plan heights k strips)

-- The strips after links, one after another.
unfoldable pub after_links : Plan → List StripLink → List ℕ → List ℕ
after_links plan [] strips = strips
after_links plan (link ∷ links) strips = after_links plan links (linked plan link.block link.pass strips)

-- The output after finish of the first n blocks.
unfoldable pub after_finishes : Plan → List ℤ → List ℕ → ℕ → List ℕ → List ℕ
after_finishes plan heights strips zero output = output
after_finishes plan heights strips (suc k) output =
    finished plan (map_of plan heights) strips k (after_finishes plan heights strips k output)

-- The strips after the collects, where each word was 7 before: a task writes its strips whole, and no other word.
unfoldable pub collected_strips : WorkedJob → List ℕ
collected_strips job =
    after_collects job.plan job.heights (needed_marks job.plan) (replicate (needed_strips job.plan) 7)

-- The strips after the links.
unfoldable pub linked_strips : WorkedJob → List ℕ
linked_strips job = after_links job.plan job.links (collected_strips job)

-- The output after the finishes, where each word was 7 before.
unfoldable pub finished_output : WorkedJob → List ℕ
finished_output job =
    after_finishes job.plan job.heights (linked_strips job) (needed_marks job.plan)
    (replicate (needed_pixels job.plan) 7)

-- What the definitions compute in a job, beside the words that are to be found.
unfoldable pub job_examples : WorkedJob → List (Example (List ℕ))
job_examples job =
    record { computed = collected_strips job; expected = map residue (job.strips_collected (pos 7)) }
    ∷ record { computed = linked_strips job; expected = map residue (job.strips_linked (pos 7)) }
    ∷ record { computed = finished_output job; expected = map residue job.output_finished }
    ∷ []

-- ---- passes

-- Gain 1, d1 = 1, d2 = 2.
abbrev forth : Pass
forth = pass_of (pos 1) (pos 1 ∷ pos 2 ∷ [])

-- Gain 2, d1 = -1, d2 = 3.
abbrev back : Pass
back = pass_of (pos 2) (minus 1 ∷ pos 3 ∷ [])

-- So many zeros.
abbrev pub zeros : ℕ → List ℤ
zeros n = replicate n (pos 0)

-- ---- the jobs: of each block the lone half of its slot, then the linked half; in the first two a strip has six words

-- One column of four rows in two blocks, b = 3: the lower block has one row. Down gives 1, -1, 1, 2 and then up -24, -8, 6, 4.
abbrev pub column_job : WorkedJob
column_job =
    record {
      plan =
          record { grid = record { rows = 4; columns = 1; side = 3 }; passes = forth ∷ back ∷ unchanged_pass ∷ unchanged_pass ∷ [] };
      heights = pos 1 ∷ pos 0 ∷ pos 2 ∷ pos 1 ∷ [];
      links = record { block = 0; pass = 0 } ∷ record { block = 1; pass = 1 } ∷ [];
      strips_collected = λ unwritten.
          minus 1
          ∷ pos 0
          ∷ pos 0
          ∷ pos 1
          ∷ (zeros 8 ++ (replicate 12 unwritten ++ (zeros 6 ++ (pos 2 ∷ (zeros 5 ++ replicate 12 unwritten)))));
      strips_linked = λ unwritten.
          minus 1
          ∷ pos 0
          ∷ pos 0
          ∷ pos 1
          ∷ (zeros 8
          ++ (minus 1
          ∷ pos 0
          ∷ pos 0
          ∷ pos 1
          ∷ (zeros 2 ++ (replicate 6 unwritten ++ (zeros 6 ++ (pos 2 ∷ (zeros 5 ++ (replicate 6 unwritten ++ (pos 4 ∷ zeros 5)))))))));
      output_finished = minus 24 ∷ minus 8 ∷ pos 6 ∷ pos 4 ∷ [];
    }

-- Two rows of four columns in two blocks, b = 3: the right block has one column. Right gives 1 -1 1 2 / 0 1 0 1 and then left
-- -24 -8 6 4 / -8 -2 2 2.
abbrev pub row_job : WorkedJob
row_job =
    record {
      plan =
          record { grid = record { rows = 2; columns = 4; side = 3 }; passes = unchanged_pass ∷ unchanged_pass ∷ forth ∷ back ∷ [] };
      heights = pos 1 ∷ pos 0 ∷ pos 2 ∷ pos 1 ∷ pos 0 ∷ pos 1 ∷ pos 1 ∷ pos 3 ∷ [];
      links = record { block = 0; pass = 2 } ∷ record { block = 1; pass = 3 } ∷ [];
      strips_collected = λ unwritten.
          minus 1
          ∷ pos 1
          ∷ pos 1
          ∷ (zeros 9 ++ (replicate 12 unwritten ++ (zeros 6 ++ (pos 2 ∷ pos 0 ∷ pos 6 ∷ (zeros 3 ++ replicate 12 unwritten)))));
      strips_linked = λ unwritten.
          minus 1
          ∷ pos 1
          ∷ pos 1
          ∷ (zeros 9
          ++ (minus 1
          ∷ pos 1
          ∷ pos 1
          ∷ (zeros 3
          ++ (replicate 6 unwritten
          ++ (zeros 6 ++ (pos 2 ∷ pos 0 ∷ pos 6 ∷ (zeros 3 ++ (replicate 6 unwritten ++ (pos 4 ∷ pos 0 ∷ pos 2 ∷ zeros 3)))))))));
      output_finished = minus 24 ∷ minus 8 ∷ pos 6 ∷ pos 4 ∷ minus 8 ∷ minus 2 ∷ pos 2 ∷ pos 2 ∷ [];
    }

-- The summed-area table of 1 2 / 3 4 in four blocks, b = 1: the right link of block 2 takes in the down strip of block 0.
abbrev pub table_job : WorkedJob
table_job =
    record {
      plan =
          record {
            grid = record { rows = 2; columns = 2; side = 1 };
            passes = summed_area_passes;
          };
      heights = pos 1 ∷ pos 2 ∷ pos 3 ∷ pos 4 ∷ [];
      links =
          record { block = 0; pass = 0 }
          ∷ record { block = 1; pass = 0 }
          ∷ record { block = 2; pass = 1 }
          ∷ record { block = 3; pass = 1 }
          ∷ record { block = 0; pass = 2 }
          ∷ record { block = 2; pass = 2 }
          ∷ record { block = 1; pass = 3 }
          ∷ record { block = 3; pass = 3 }
          ∷ [];
      strips_collected = λ unwritten.
          pos 1
          ∷ pos 1
          ∷ (replicate 2 unwritten
          ++ (pos 2 ∷ pos 0 ∷ (replicate 2 unwritten ++ (pos 0 ∷ pos 3 ∷ (replicate 2 unwritten ++ (pos 0 ∷ pos 0 ∷ replicate 2 unwritten))))));
      strips_linked = λ unwritten.
          pos 1
          ∷ pos 1
          ∷ pos 1
          ∷ pos 1
          ∷ pos 2
          ∷ pos 0
          ∷ pos 2
          ∷ (replicate 1 unwritten
          ++ (pos 0 ∷ pos 3 ∷ (replicate 1 unwritten ++ (pos 4 ∷ pos 0 ∷ pos 0 ∷ replicate 2 unwritten))));
      output_finished = pos 1 ∷ pos 3 ∷ pos 4 ∷ pos 10 ∷ [];
    }

-- Running sums down a column of four blocks, b = 1: the link of block 2 takes in the linked strip of block 1, which is not its
-- lone one.
abbrev pub sums_job : WorkedJob
sums_job =
    record {
      plan =
          record {
            grid = record { rows = 4; columns = 1; side = 1 };
            passes = running_sum_pass ∷ unchanged_pass ∷ unchanged_pass ∷ unchanged_pass ∷ [];
          };
      heights = pos 1 ∷ pos 2 ∷ pos 3 ∷ pos 4 ∷ [];
      links = record { block = 0; pass = 0 } ∷ record { block = 1; pass = 0 } ∷ record { block = 2; pass = 0 } ∷ [];
      strips_collected = λ unwritten.
          pos 1 ∷ unwritten ∷ pos 2 ∷ unwritten ∷ pos 3 ∷ unwritten ∷ pos 0 ∷ unwritten ∷ [];
      strips_linked = λ unwritten. pos 1 ∷ pos 1 ∷ pos 2 ∷ pos 3 ∷ pos 3 ∷ pos 6 ∷ pos 0 ∷ unwritten ∷ [];
      output_finished = pos 1 ∷ pos 3 ∷ pos 6 ∷ pos 10 ∷ [];
    }

-- All of them.
unfoldable pub blocks_examples : List (Example (List ℕ))
blocks_examples = job_examples column_job ++ (job_examples row_job ++ (job_examples table_job ++ job_examples sums_job))

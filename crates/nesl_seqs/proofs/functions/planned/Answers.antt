use Rattle.std.proofs.Common.{◌^◌}
use Rattle.nesl_seqs_base.specs.Lent.{argument_tree}
use Rattle.nesl_seqs_base.specs.Meaning.{outcome_of}
use Rattle.nesl_seqs_base.specs.Prices.{reads, depth_of}
use Rattle.nesl_seqs_base.specs.declared.seq_fn.SeqFn.TheVariants.{Length, ElementAt, Append, Dist, Range, RangeBy, Index, Sum, Any, All, Count, Bottop, Take, Drop, Reverse, Rotate, Zip, Rep, Eql, MaxVal, MinVal, MaxIndex, MinIndex, PlusScan, OrScan, AndScan}
use Rattle.nesl_seqs_base.specs.declared.seq_fn.SeqFn.TheVariants.{Flatten, Unzip, OddElts, EvenElts, Interleave, Gather, Permute, Split, Partition, Write}
use Rattle.nesl_seqs.proofs.Bounds.{bounded_length, bounded_element_at, bounded_append, bounded_bottop, bounded_take, bounded_drop, bounded_reverse, bounded_rotate, bounded_zip, bounded_rep, bounded_eql, bounded_sum, bounded_any, bounded_all, bounded_count}
use Rattle.nesl_seqs.proofs.ScanBounds.{bounded_max_val, bounded_min_val, bounded_max_index, bounded_min_index, bounded_plus_scan, bounded_or_scan, bounded_and_scan}
use Rattle.nesl_seqs.proofs.BoundsOfParts.{bounded_flatten, bounded_unzip, bounded_odd_elts, bounded_even_elts, bounded_interleave, bounded_split, bounded_partition}
use Rattle.nesl_seqs.proofs.PlaceBounds.{bounded_gather, bounded_permute, bounded_write}
use Rattle.nesl_seqs.proofs.Few.{few}
use Rattle.nesl_seqs.proofs.Planned.{planned_fits, unread_fits, dist_fits}
use Rattle.nesl_seqs.proofs.functions.planned.Goals as goal

pub returns-in-Length-clause-plan : goal.returns-in-Length-clause-plan
returns-in-Length-clause-plan g c =
    let t = argument_tree c.args.argument in
    rw c.in-Length.is (c.from_build.ensures.plan (outcome_of Length t) (reads Length t) c.plan_length.ensures)

pub returns-in-Length-clause-always : goal.returns-in-Length-clause-always
returns-in-Length-clause-always g c h =
    let t = argument_tree c.args.argument in
    planned_fits (outcome_of Length t) (reads Length t) 1 c.from_build.result (bounded_length t (few c.args.argument h)) (c.from_build.ensures.plan (outcome_of Length t) (reads Length t) c.plan_length.ensures)

pub returns-in-ElementAt-clause-plan : goal.returns-in-ElementAt-clause-plan
returns-in-ElementAt-clause-plan g c =
    let t = argument_tree c.args.argument in
    rw c.in-ElementAt.is (c.from_build-in-ElementAt.ensures.plan (outcome_of ElementAt t) (reads ElementAt t) c.plan_element_at.ensures)

pub returns-in-ElementAt-clause-always : goal.returns-in-ElementAt-clause-always
returns-in-ElementAt-clause-always g c h =
    let t = argument_tree c.args.argument in
    planned_fits (outcome_of ElementAt t) (reads ElementAt t) 1 c.from_build-in-ElementAt.result (bounded_element_at t (few c.args.argument h)) (c.from_build-in-ElementAt.ensures.plan (outcome_of ElementAt t) (reads ElementAt t) c.plan_element_at.ensures)

pub returns-in-Append-clause-plan : goal.returns-in-Append-clause-plan
returns-in-Append-clause-plan g c =
    let t = argument_tree c.args.argument in
    rw c.in-Append.is (c.from_build-in-Append.ensures.plan (outcome_of Append t) (reads Append t) c.plan_append.ensures)

pub returns-in-Append-clause-always : goal.returns-in-Append-clause-always
returns-in-Append-clause-always g c h =
    let t = argument_tree c.args.argument in
    planned_fits (outcome_of Append t) (reads Append t) 1 c.from_build-in-Append.result (bounded_append t (few c.args.argument h)) (c.from_build-in-Append.ensures.plan (outcome_of Append t) (reads Append t) c.plan_append.ensures)

pub returns-in-Dist-clause-plan : goal.returns-in-Dist-clause-plan
returns-in-Dist-clause-plan g c =
    let t = argument_tree c.args.argument in
    rw c.in-Dist.is (c.from_build-in-Dist.ensures.plan (outcome_of Dist t) (reads Dist t) c.plan_dist.ensures.plan)

pub returns-in-Dist-clause-always : goal.returns-in-Dist-clause-always
returns-in-Dist-clause-always g c h =
    let t = argument_tree c.args.argument in
    dist_fits c.args.argument 1 c.from_build-in-Dist.result h (c.from_build-in-Dist.ensures.plan (outcome_of Dist t) (reads Dist t) c.plan_dist.ensures.plan) (λ few. c.from_build-in-Dist.ensures.few (2 ^ 128) (c.plan_dist.ensures.few few))

pub returns-in-Range-clause-plan : goal.returns-in-Range-clause-plan
returns-in-Range-clause-plan g c =
    let t = argument_tree c.args.argument in
    rw c.in-Range.is (c.from_build-in-Range.ensures.plan (outcome_of Range t) (reads Range t) c.plan_range.ensures.plan)

pub returns-in-Range-clause-always : goal.returns-in-Range-clause-always
returns-in-Range-clause-always g c h =
    let t = argument_tree c.args.argument in
    unread_fits (outcome_of Range t) 1 c.from_build-in-Range.result (c.from_build-in-Range.ensures.plan (outcome_of Range t) (reads Range t) c.plan_range.ensures.plan) (c.from_build-in-Range.ensures.few (2 ^ 65) c.plan_range.ensures.few)

pub returns-in-RangeBy-clause-plan : goal.returns-in-RangeBy-clause-plan
returns-in-RangeBy-clause-plan g c =
    let t = argument_tree c.args.argument in
    rw c.in-RangeBy.is (c.from_build-in-RangeBy.ensures.plan (outcome_of RangeBy t) (reads RangeBy t) c.plan_range_by.ensures.plan)

pub returns-in-RangeBy-clause-always : goal.returns-in-RangeBy-clause-always
returns-in-RangeBy-clause-always g c h =
    let t = argument_tree c.args.argument in
    unread_fits (outcome_of RangeBy t) 1 c.from_build-in-RangeBy.result (c.from_build-in-RangeBy.ensures.plan (outcome_of RangeBy t) (reads RangeBy t) c.plan_range_by.ensures.plan) (c.from_build-in-RangeBy.ensures.few (2 ^ 65) c.plan_range_by.ensures.few)

pub returns-in-Index-clause-plan : goal.returns-in-Index-clause-plan
returns-in-Index-clause-plan g c =
    let t = argument_tree c.args.argument in
    rw c.in-Index.is (c.from_build-in-Index.ensures.plan (outcome_of Index t) (reads Index t) c.plan_index.ensures.plan)

pub returns-in-Index-clause-always : goal.returns-in-Index-clause-always
returns-in-Index-clause-always g c h =
    let t = argument_tree c.args.argument in
    unread_fits (outcome_of Index t) 1 c.from_build-in-Index.result (c.from_build-in-Index.ensures.plan (outcome_of Index t) (reads Index t) c.plan_index.ensures.plan) (c.from_build-in-Index.ensures.few (2 ^ 65) c.plan_index.ensures.few)

pub returns-in-Sum-clause-plan : goal.returns-in-Sum-clause-plan
returns-in-Sum-clause-plan g c =
    let t = argument_tree c.args.argument in
    rw c.in-Sum.is (c.from_fold.ensures (outcome_of Sum t) (reads Sum t) (depth_of Sum (reads Sum t)) c.plan_sum.ensures)

pub returns-in-Sum-clause-always : goal.returns-in-Sum-clause-always
returns-in-Sum-clause-always g c h =
    let t = argument_tree c.args.argument in
    planned_fits (outcome_of Sum t) (reads Sum t) (depth_of Sum (reads Sum t)) c.from_fold.result (bounded_sum t (few c.args.argument h)) (c.from_fold.ensures (outcome_of Sum t) (reads Sum t) (depth_of Sum (reads Sum t)) c.plan_sum.ensures)

pub returns-in-Any-clause-plan : goal.returns-in-Any-clause-plan
returns-in-Any-clause-plan g c =
    let t = argument_tree c.args.argument in
    rw c.in-Any.is (c.from_fold-in-Any.ensures (outcome_of Any t) (reads Any t) (depth_of Any (reads Any t)) (c.plan_of_leaf.ensures (outcome_of Any t) c.any.ensures))

pub returns-in-Any-clause-always : goal.returns-in-Any-clause-always
returns-in-Any-clause-always g c h =
    let t = argument_tree c.args.argument in
    planned_fits (outcome_of Any t) (reads Any t) (depth_of Any (reads Any t)) c.from_fold-in-Any.result (bounded_any t (few c.args.argument h)) (c.from_fold-in-Any.ensures (outcome_of Any t) (reads Any t) (depth_of Any (reads Any t)) (c.plan_of_leaf.ensures (outcome_of Any t) c.any.ensures))

pub returns-in-All-clause-plan : goal.returns-in-All-clause-plan
returns-in-All-clause-plan g c =
    let t = argument_tree c.args.argument in
    rw c.in-All.is (c.from_fold-in-All.ensures (outcome_of All t) (reads All t) (depth_of All (reads All t)) (c.plan_of_leaf-in-All.ensures (outcome_of All t) c.all.ensures))

pub returns-in-All-clause-always : goal.returns-in-All-clause-always
returns-in-All-clause-always g c h =
    let t = argument_tree c.args.argument in
    planned_fits (outcome_of All t) (reads All t) (depth_of All (reads All t)) c.from_fold-in-All.result (bounded_all t (few c.args.argument h)) (c.from_fold-in-All.ensures (outcome_of All t) (reads All t) (depth_of All (reads All t)) (c.plan_of_leaf-in-All.ensures (outcome_of All t) c.all.ensures))

pub returns-in-Count-clause-plan : goal.returns-in-Count-clause-plan
returns-in-Count-clause-plan g c =
    let t = argument_tree c.args.argument in
    rw c.in-Count.is (c.from_fold-in-Count.ensures (outcome_of Count t) (reads Count t) (depth_of Count (reads Count t)) (c.plan_of_leaf-in-Count.ensures (outcome_of Count t) c.count.ensures))

pub returns-in-Count-clause-always : goal.returns-in-Count-clause-always
returns-in-Count-clause-always g c h =
    let t = argument_tree c.args.argument in
    planned_fits (outcome_of Count t) (reads Count t) (depth_of Count (reads Count t)) c.from_fold-in-Count.result (bounded_count t (few c.args.argument h)) (c.from_fold-in-Count.ensures (outcome_of Count t) (reads Count t) (depth_of Count (reads Count t)) (c.plan_of_leaf-in-Count.ensures (outcome_of Count t) c.count.ensures))

pub returns-in-Bottop-clause-plan : goal.returns-in-Bottop-clause-plan
returns-in-Bottop-clause-plan g c =
    let t = argument_tree c.args.argument in
    rw c.in-Bottop.is (c.from_build-in-Bottop.ensures.plan (outcome_of Bottop t) (reads Bottop t) c.plan_bottop.ensures)

pub returns-in-Bottop-clause-always : goal.returns-in-Bottop-clause-always
returns-in-Bottop-clause-always g c h =
    let t = argument_tree c.args.argument in
    planned_fits (outcome_of Bottop t) (reads Bottop t) 1 c.from_build-in-Bottop.result (bounded_bottop t (few c.args.argument h)) (c.from_build-in-Bottop.ensures.plan (outcome_of Bottop t) (reads Bottop t) c.plan_bottop.ensures)

pub returns-in-Take-clause-plan : goal.returns-in-Take-clause-plan
returns-in-Take-clause-plan g c =
    let t = argument_tree c.args.argument in
    rw c.in-Take.is (c.from_build-in-Take.ensures.plan (outcome_of Take t) (reads Take t) c.plan_take.ensures)

pub returns-in-Take-clause-always : goal.returns-in-Take-clause-always
returns-in-Take-clause-always g c h =
    let t = argument_tree c.args.argument in
    planned_fits (outcome_of Take t) (reads Take t) 1 c.from_build-in-Take.result (bounded_take t (few c.args.argument h)) (c.from_build-in-Take.ensures.plan (outcome_of Take t) (reads Take t) c.plan_take.ensures)

pub returns-in-Drop-clause-plan : goal.returns-in-Drop-clause-plan
returns-in-Drop-clause-plan g c =
    let t = argument_tree c.args.argument in
    rw c.in-Drop.is (c.from_build-in-Drop.ensures.plan (outcome_of Drop t) (reads Drop t) c.plan_drop.ensures)

pub returns-in-Drop-clause-always : goal.returns-in-Drop-clause-always
returns-in-Drop-clause-always g c h =
    let t = argument_tree c.args.argument in
    planned_fits (outcome_of Drop t) (reads Drop t) 1 c.from_build-in-Drop.result (bounded_drop t (few c.args.argument h)) (c.from_build-in-Drop.ensures.plan (outcome_of Drop t) (reads Drop t) c.plan_drop.ensures)

pub returns-in-Reverse-clause-plan : goal.returns-in-Reverse-clause-plan
returns-in-Reverse-clause-plan g c =
    let t = argument_tree c.args.argument in
    rw c.in-Reverse.is (c.from_build-in-Reverse.ensures.plan (outcome_of Reverse t) (reads Reverse t) c.plan_reverse.ensures)

pub returns-in-Reverse-clause-always : goal.returns-in-Reverse-clause-always
returns-in-Reverse-clause-always g c h =
    let t = argument_tree c.args.argument in
    planned_fits (outcome_of Reverse t) (reads Reverse t) 1 c.from_build-in-Reverse.result (bounded_reverse t (few c.args.argument h)) (c.from_build-in-Reverse.ensures.plan (outcome_of Reverse t) (reads Reverse t) c.plan_reverse.ensures)

pub returns-in-Rotate-clause-plan : goal.returns-in-Rotate-clause-plan
returns-in-Rotate-clause-plan g c =
    let t = argument_tree c.args.argument in
    rw c.in-Rotate.is (c.from_build-in-Rotate.ensures.plan (outcome_of Rotate t) (reads Rotate t) c.plan_rotate.ensures)

pub returns-in-Rotate-clause-always : goal.returns-in-Rotate-clause-always
returns-in-Rotate-clause-always g c h =
    let t = argument_tree c.args.argument in
    planned_fits (outcome_of Rotate t) (reads Rotate t) 1 c.from_build-in-Rotate.result (bounded_rotate t (few c.args.argument h)) (c.from_build-in-Rotate.ensures.plan (outcome_of Rotate t) (reads Rotate t) c.plan_rotate.ensures)

pub returns-in-Zip-clause-plan : goal.returns-in-Zip-clause-plan
returns-in-Zip-clause-plan g c =
    let t = argument_tree c.args.argument in
    rw c.in-Zip.is (c.from_build-in-Zip.ensures.plan (outcome_of Zip t) (reads Zip t) c.plan_zip.ensures)

pub returns-in-Zip-clause-always : goal.returns-in-Zip-clause-always
returns-in-Zip-clause-always g c h =
    let t = argument_tree c.args.argument in
    planned_fits (outcome_of Zip t) (reads Zip t) 1 c.from_build-in-Zip.result (bounded_zip t (few c.args.argument h)) (c.from_build-in-Zip.ensures.plan (outcome_of Zip t) (reads Zip t) c.plan_zip.ensures)

pub returns-in-Rep-clause-plan : goal.returns-in-Rep-clause-plan
returns-in-Rep-clause-plan g c =
    let t = argument_tree c.args.argument in
    rw c.in-Rep.is (c.from_build-in-Rep.ensures.plan (outcome_of Rep t) (reads Rep t) c.plan_rep.ensures)

pub returns-in-Rep-clause-always : goal.returns-in-Rep-clause-always
returns-in-Rep-clause-always g c h =
    let t = argument_tree c.args.argument in
    planned_fits (outcome_of Rep t) (reads Rep t) 1 c.from_build-in-Rep.result (bounded_rep t (few c.args.argument h)) (c.from_build-in-Rep.ensures.plan (outcome_of Rep t) (reads Rep t) c.plan_rep.ensures)

pub returns-in-Eql-clause-plan : goal.returns-in-Eql-clause-plan
returns-in-Eql-clause-plan g c =
    let t = argument_tree c.args.argument in
    rw c.in-Eql.is (c.from_fold-in-Eql.ensures (outcome_of Eql t) (reads Eql t) (depth_of Eql (reads Eql t)) c.plan_eql.ensures)

pub returns-in-Eql-clause-always : goal.returns-in-Eql-clause-always
returns-in-Eql-clause-always g c h =
    let t = argument_tree c.args.argument in
    planned_fits (outcome_of Eql t) (reads Eql t) (depth_of Eql (reads Eql t)) c.from_fold-in-Eql.result (bounded_eql t (few c.args.argument h)) (c.from_fold-in-Eql.ensures (outcome_of Eql t) (reads Eql t) (depth_of Eql (reads Eql t)) c.plan_eql.ensures)

pub returns-in-MaxVal-clause-plan : goal.returns-in-MaxVal-clause-plan
returns-in-MaxVal-clause-plan g c =
    let t = argument_tree c.args.argument in
    rw c.in-MaxVal.is (c.from_fold-in-MaxVal.ensures (outcome_of MaxVal t) (reads MaxVal t) (depth_of MaxVal (reads MaxVal t)) (c.plan_of_leaf-in-MaxVal.ensures (outcome_of MaxVal t) c.max_val.ensures))

pub returns-in-MaxVal-clause-always : goal.returns-in-MaxVal-clause-always
returns-in-MaxVal-clause-always g c h =
    let t = argument_tree c.args.argument in
    planned_fits (outcome_of MaxVal t) (reads MaxVal t) (depth_of MaxVal (reads MaxVal t)) c.from_fold-in-MaxVal.result (bounded_max_val t (few c.args.argument h)) (c.from_fold-in-MaxVal.ensures (outcome_of MaxVal t) (reads MaxVal t) (depth_of MaxVal (reads MaxVal t)) (c.plan_of_leaf-in-MaxVal.ensures (outcome_of MaxVal t) c.max_val.ensures))

pub returns-in-MinVal-clause-plan : goal.returns-in-MinVal-clause-plan
returns-in-MinVal-clause-plan g c =
    let t = argument_tree c.args.argument in
    rw c.in-MinVal.is (c.from_fold-in-MinVal.ensures (outcome_of MinVal t) (reads MinVal t) (depth_of MinVal (reads MinVal t)) (c.plan_of_leaf-in-MinVal.ensures (outcome_of MinVal t) c.min_val.ensures))

pub returns-in-MinVal-clause-always : goal.returns-in-MinVal-clause-always
returns-in-MinVal-clause-always g c h =
    let t = argument_tree c.args.argument in
    planned_fits (outcome_of MinVal t) (reads MinVal t) (depth_of MinVal (reads MinVal t)) c.from_fold-in-MinVal.result (bounded_min_val t (few c.args.argument h)) (c.from_fold-in-MinVal.ensures (outcome_of MinVal t) (reads MinVal t) (depth_of MinVal (reads MinVal t)) (c.plan_of_leaf-in-MinVal.ensures (outcome_of MinVal t) c.min_val.ensures))

pub returns-in-MaxIndex-clause-plan : goal.returns-in-MaxIndex-clause-plan
returns-in-MaxIndex-clause-plan g c =
    let t = argument_tree c.args.argument in
    rw c.in-MaxIndex.is (c.from_fold-in-MaxIndex.ensures (outcome_of MaxIndex t) (reads MaxIndex t) (depth_of MaxIndex (reads MaxIndex t)) (c.plan_of_leaf-in-MaxIndex.ensures (outcome_of MaxIndex t) c.max_index.ensures))

pub returns-in-MaxIndex-clause-always : goal.returns-in-MaxIndex-clause-always
returns-in-MaxIndex-clause-always g c h =
    let t = argument_tree c.args.argument in
    planned_fits (outcome_of MaxIndex t) (reads MaxIndex t) (depth_of MaxIndex (reads MaxIndex t)) c.from_fold-in-MaxIndex.result (bounded_max_index t (few c.args.argument h)) (c.from_fold-in-MaxIndex.ensures (outcome_of MaxIndex t) (reads MaxIndex t) (depth_of MaxIndex (reads MaxIndex t)) (c.plan_of_leaf-in-MaxIndex.ensures (outcome_of MaxIndex t) c.max_index.ensures))

pub returns-in-MinIndex-clause-plan : goal.returns-in-MinIndex-clause-plan
returns-in-MinIndex-clause-plan g c =
    let t = argument_tree c.args.argument in
    rw c.in-MinIndex.is (c.from_fold-in-MinIndex.ensures (outcome_of MinIndex t) (reads MinIndex t) (depth_of MinIndex (reads MinIndex t)) (c.plan_of_leaf-in-MinIndex.ensures (outcome_of MinIndex t) c.min_index.ensures))

pub returns-in-MinIndex-clause-always : goal.returns-in-MinIndex-clause-always
returns-in-MinIndex-clause-always g c h =
    let t = argument_tree c.args.argument in
    planned_fits (outcome_of MinIndex t) (reads MinIndex t) (depth_of MinIndex (reads MinIndex t)) c.from_fold-in-MinIndex.result (bounded_min_index t (few c.args.argument h)) (c.from_fold-in-MinIndex.ensures (outcome_of MinIndex t) (reads MinIndex t) (depth_of MinIndex (reads MinIndex t)) (c.plan_of_leaf-in-MinIndex.ensures (outcome_of MinIndex t) c.min_index.ensures))

pub returns-in-PlusScan-clause-plan : goal.returns-in-PlusScan-clause-plan
returns-in-PlusScan-clause-plan g c =
    let t = argument_tree c.args.argument in
    rw c.in-PlusScan.is (c.from_fold-in-PlusScan.ensures (outcome_of PlusScan t) (reads PlusScan t) (depth_of PlusScan (reads PlusScan t)) c.plan_plus_scan.ensures)

pub returns-in-PlusScan-clause-always : goal.returns-in-PlusScan-clause-always
returns-in-PlusScan-clause-always g c h =
    let t = argument_tree c.args.argument in
    planned_fits (outcome_of PlusScan t) (reads PlusScan t) (depth_of PlusScan (reads PlusScan t)) c.from_fold-in-PlusScan.result (bounded_plus_scan t (few c.args.argument h)) (c.from_fold-in-PlusScan.ensures (outcome_of PlusScan t) (reads PlusScan t) (depth_of PlusScan (reads PlusScan t)) c.plan_plus_scan.ensures)

pub returns-in-OrScan-clause-plan : goal.returns-in-OrScan-clause-plan
returns-in-OrScan-clause-plan g c =
    let t = argument_tree c.args.argument in
    rw c.in-OrScan.is (c.from_fold-in-OrScan.ensures (outcome_of OrScan t) (reads OrScan t) (depth_of OrScan (reads OrScan t)) c.plan_logic_scan.ensures)

pub returns-in-OrScan-clause-always : goal.returns-in-OrScan-clause-always
returns-in-OrScan-clause-always g c h =
    let t = argument_tree c.args.argument in
    planned_fits (outcome_of OrScan t) (reads OrScan t) (depth_of OrScan (reads OrScan t)) c.from_fold-in-OrScan.result (bounded_or_scan t (few c.args.argument h)) (c.from_fold-in-OrScan.ensures (outcome_of OrScan t) (reads OrScan t) (depth_of OrScan (reads OrScan t)) c.plan_logic_scan.ensures)

pub returns-in-AndScan-clause-plan : goal.returns-in-AndScan-clause-plan
returns-in-AndScan-clause-plan g c =
    let t = argument_tree c.args.argument in
    rw c.in-AndScan.is (c.from_fold-in-AndScan.ensures (outcome_of AndScan t) (reads AndScan t) (depth_of AndScan (reads AndScan t)) c.plan_logic_scan-in-AndScan.ensures)

pub returns-in-AndScan-clause-always : goal.returns-in-AndScan-clause-always
returns-in-AndScan-clause-always g c h =
    let t = argument_tree c.args.argument in
    planned_fits (outcome_of AndScan t) (reads AndScan t) (depth_of AndScan (reads AndScan t)) c.from_fold-in-AndScan.result (bounded_and_scan t (few c.args.argument h)) (c.from_fold-in-AndScan.ensures (outcome_of AndScan t) (reads AndScan t) (depth_of AndScan (reads AndScan t)) c.plan_logic_scan-in-AndScan.ensures)

pub returns-in-Flatten-clause-plan : goal.returns-in-Flatten-clause-plan
returns-in-Flatten-clause-plan g c =
    let t = argument_tree c.args.argument in
    rw c.in-Flatten.is (c.from_build-in-Flatten.ensures.plan (outcome_of Flatten t) (reads Flatten t) c.plan_flatten.ensures)

pub returns-in-Flatten-clause-always : goal.returns-in-Flatten-clause-always
returns-in-Flatten-clause-always g c h =
    let t = argument_tree c.args.argument in
    planned_fits (outcome_of Flatten t) (reads Flatten t) 1 c.from_build-in-Flatten.result (bounded_flatten t (few c.args.argument h)) (c.from_build-in-Flatten.ensures.plan (outcome_of Flatten t) (reads Flatten t) c.plan_flatten.ensures)

pub returns-in-Unzip-clause-plan : goal.returns-in-Unzip-clause-plan
returns-in-Unzip-clause-plan g c =
    let t = argument_tree c.args.argument in
    rw c.in-Unzip.is (c.from_build-in-Unzip.ensures.plan (outcome_of Unzip t) (reads Unzip t) c.plan_unzip.ensures)

pub returns-in-Unzip-clause-always : goal.returns-in-Unzip-clause-always
returns-in-Unzip-clause-always g c h =
    let t = argument_tree c.args.argument in
    planned_fits (outcome_of Unzip t) (reads Unzip t) 1 c.from_build-in-Unzip.result (bounded_unzip t (few c.args.argument h)) (c.from_build-in-Unzip.ensures.plan (outcome_of Unzip t) (reads Unzip t) c.plan_unzip.ensures)

pub returns-in-OddElts-clause-plan : goal.returns-in-OddElts-clause-plan
returns-in-OddElts-clause-plan g c =
    let t = argument_tree c.args.argument in
    rw c.in-OddElts.is (c.from_index.ensures (outcome_of OddElts t) (reads OddElts t) c.plan_odd_elts.ensures)

pub returns-in-OddElts-clause-always : goal.returns-in-OddElts-clause-always
returns-in-OddElts-clause-always g c h =
    let t = argument_tree c.args.argument in
    planned_fits (outcome_of OddElts t) (reads OddElts t) 1 c.from_index.result (bounded_odd_elts t (few c.args.argument h)) (c.from_index.ensures (outcome_of OddElts t) (reads OddElts t) c.plan_odd_elts.ensures)

pub returns-in-EvenElts-clause-plan : goal.returns-in-EvenElts-clause-plan
returns-in-EvenElts-clause-plan g c =
    let t = argument_tree c.args.argument in
    rw c.in-EvenElts.is (c.from_index-in-EvenElts.ensures (outcome_of EvenElts t) (reads EvenElts t) c.plan_even_elts.ensures)

pub returns-in-EvenElts-clause-always : goal.returns-in-EvenElts-clause-always
returns-in-EvenElts-clause-always g c h =
    let t = argument_tree c.args.argument in
    planned_fits (outcome_of EvenElts t) (reads EvenElts t) 1 c.from_index-in-EvenElts.result (bounded_even_elts t (few c.args.argument h)) (c.from_index-in-EvenElts.ensures (outcome_of EvenElts t) (reads EvenElts t) c.plan_even_elts.ensures)

pub returns-in-Interleave-clause-plan : goal.returns-in-Interleave-clause-plan
returns-in-Interleave-clause-plan g c =
    let t = argument_tree c.args.argument in
    rw c.in-Interleave.is (c.from_index-in-Interleave.ensures (outcome_of Interleave t) (reads Interleave t) c.plan_interleave.ensures)

pub returns-in-Interleave-clause-always : goal.returns-in-Interleave-clause-always
returns-in-Interleave-clause-always g c h =
    let t = argument_tree c.args.argument in
    planned_fits (outcome_of Interleave t) (reads Interleave t) 1 c.from_index-in-Interleave.result (bounded_interleave t (few c.args.argument h)) (c.from_index-in-Interleave.ensures (outcome_of Interleave t) (reads Interleave t) c.plan_interleave.ensures)

pub returns-in-Gather-clause-plan : goal.returns-in-Gather-clause-plan
returns-in-Gather-clause-plan g c =
    let t = argument_tree c.args.argument in
    rw c.in-Gather.is (c.from_index-in-Gather.ensures (outcome_of Gather t) (reads Gather t) c.plan_gather.ensures)

pub returns-in-Gather-clause-always : goal.returns-in-Gather-clause-always
returns-in-Gather-clause-always g c h =
    let t = argument_tree c.args.argument in
    planned_fits (outcome_of Gather t) (reads Gather t) 1 c.from_index-in-Gather.result (bounded_gather c.args.argument h) (c.from_index-in-Gather.ensures (outcome_of Gather t) (reads Gather t) c.plan_gather.ensures)

pub returns-in-Permute-clause-plan : goal.returns-in-Permute-clause-plan
returns-in-Permute-clause-plan g c =
    let t = argument_tree c.args.argument in
    rw c.in-Permute.is (c.from_index-in-Permute.ensures (outcome_of Permute t) (reads Permute t) c.plan_permute.ensures)

pub returns-in-Permute-clause-always : goal.returns-in-Permute-clause-always
returns-in-Permute-clause-always g c h =
    let t = argument_tree c.args.argument in
    planned_fits (outcome_of Permute t) (reads Permute t) 1 c.from_index-in-Permute.result (bounded_permute t (few c.args.argument h)) (c.from_index-in-Permute.ensures (outcome_of Permute t) (reads Permute t) c.plan_permute.ensures)

pub returns-in-Split-clause-plan : goal.returns-in-Split-clause-plan
returns-in-Split-clause-plan g c =
    let t = argument_tree c.args.argument in
    rw c.in-Split.is (c.from_build-in-Split.ensures.plan (outcome_of Split t) (reads Split t) c.plan_split.ensures)

pub returns-in-Split-clause-always : goal.returns-in-Split-clause-always
returns-in-Split-clause-always g c h =
    let t = argument_tree c.args.argument in
    planned_fits (outcome_of Split t) (reads Split t) 1 c.from_build-in-Split.result (bounded_split t (few c.args.argument h)) (c.from_build-in-Split.ensures.plan (outcome_of Split t) (reads Split t) c.plan_split.ensures)

pub returns-in-Partition-clause-plan : goal.returns-in-Partition-clause-plan
returns-in-Partition-clause-plan g c =
    let t = argument_tree c.args.argument in
    rw c.in-Partition.is (c.from_build-in-Partition.ensures.plan (outcome_of Partition t) (reads Partition t) c.plan_partition.ensures)

pub returns-in-Partition-clause-always : goal.returns-in-Partition-clause-always
returns-in-Partition-clause-always g c h =
    let t = argument_tree c.args.argument in
    planned_fits (outcome_of Partition t) (reads Partition t) 1 c.from_build-in-Partition.result (bounded_partition t (few c.args.argument h)) (c.from_build-in-Partition.ensures.plan (outcome_of Partition t) (reads Partition t) c.plan_partition.ensures)

pub returns-in-Write-clause-plan : goal.returns-in-Write-clause-plan
returns-in-Write-clause-plan g c =
    let t = argument_tree c.args.argument in
    rw c.in-Write.is (c.from_index-in-Write.ensures (outcome_of Write t) (reads Write t) c.plan_write.ensures)

pub returns-in-Write-clause-always : goal.returns-in-Write-clause-always
returns-in-Write-clause-always g c h =
    let t = argument_tree c.args.argument in
    planned_fits (outcome_of Write t) (reads Write t) 1 c.from_index-in-Write.result (bounded_write t (few c.args.argument h)) (c.from_index-in-Write.ensures (outcome_of Write t) (reads Write t) c.plan_write.ensures)

-- The functions on sequences keep types.
use Rattle.nesl_seqs_base.specs.Meaning.{outcome_of}
use Rattle.nesl_seqs_base.specs.declared.seq_fn.SeqFn.TheVariants as f
use Rattle.nesl_seqs_base.specs.declared.order.Order.TheVariants.{Greatest, Least}
use Rattle.nesl_seqs_base.specs.declared.joint.Joint.TheVariants.{Or, And}
use Rattle.nesl_eval_sound.specs.Functions.{SequencesKeepTypes}
use Rattle.nesl_eval_sound.proofs.Sequences.{keeps_length, keeps_index, keeps_append, keeps_dist, keeps_bottop, keeps_take, keeps_drop, keeps_reverse, keeps_rotate, keeps_rep, keeps_eql, keeps_flatten, keeps_odd, keeps_even, keeps_interleave, keeps_gather, keeps_permute, keeps_split, keeps_partition, keeps_write, keeps_zip, keeps_unzip, keeps_range, keeps_range_by, keeps_iota, keeps_any, keeps_all, keeps_count, keeps_sum, keeps_plus_scan, keeps_best, keeps_place, keeps_scan}
use Rattle.std.proofs.Common.{subst, sym}
use Rattle.nesl_types_shared.specs.Term as type
use Rattle.nesl_eval_sound.specs.HasType.{HasType}
use Rattle.nesl_eval_sound.specs.Keeps.{OutcomeHasType}

pub sequences_keep : SequencesKeepTypes
sequences_keep f.Length held s m v h = keeps_length held (s 0) v h
sequences_keep f.ElementAt held s m v h = keeps_index held (s 0) v h
sequences_keep f.Append held s m v h = keeps_append held (s 0) v h
sequences_keep f.Dist held s m v h = keeps_dist held (s 0) v h
sequences_keep f.Range held s m v h = keeps_range held v h
sequences_keep f.RangeBy held s m v h = keeps_range_by held v h
sequences_keep f.Index held s m v h = keeps_iota held v h
sequences_keep f.Sum held s m v h =
    subst (λ a. HasType held v (type.seq_of a) → OutcomeHasType held (outcome_of f.Sum v) a) (sym (m 0)) (keeps_sum held v) h
sequences_keep f.Any held s m v h = keeps_any held v h
sequences_keep f.All held s m v h = keeps_all held v h
sequences_keep f.Count held s m v h = keeps_count held v h
sequences_keep f.Bottop held s m v h = keeps_bottop held (s 0) v h
sequences_keep f.Take held s m v h = keeps_take held (s 0) v h
sequences_keep f.Drop held s m v h = keeps_drop held (s 0) v h
sequences_keep f.Reverse held s m v h = keeps_reverse held (s 0) v h
sequences_keep f.Rotate held s m v h = keeps_rotate held (s 0) v h
sequences_keep f.Zip held s m v h = keeps_zip held (s 0) (s 1) v h
sequences_keep f.Rep held s m v h = keeps_rep held (s 0) v h
sequences_keep f.Eql held s m v h = keeps_eql held (s 0) v h
sequences_keep f.MaxVal held s m v h = keeps_best held Greatest (s 0) (m 0) v h
sequences_keep f.MinVal held s m v h = keeps_best held Least (s 0) (m 0) v h
sequences_keep f.MaxIndex held s m v h = keeps_place held Greatest (s 0) (m 0) v h
sequences_keep f.MinIndex held s m v h = keeps_place held Least (s 0) (m 0) v h
sequences_keep f.PlusScan held s m v h =
    subst (λ a. HasType held v (type.seq_of a) → OutcomeHasType held (outcome_of f.PlusScan v) (type.seq_of a)) (sym (m 0)) (keeps_plus_scan held v) h
sequences_keep f.OrScan held s m v h = keeps_scan held Or (s 0) (m 0) v h
sequences_keep f.AndScan held s m v h = keeps_scan held And (s 0) (m 0) v h
sequences_keep f.Flatten held s m v h = keeps_flatten held (s 0) v h
sequences_keep f.Unzip held s m v h = keeps_unzip held (s 0) (s 1) v h
sequences_keep f.OddElts held s m v h = keeps_odd held (s 0) v h
sequences_keep f.EvenElts held s m v h = keeps_even held (s 0) v h
sequences_keep f.Interleave held s m v h = keeps_interleave held (s 0) v h
sequences_keep f.Gather held s m v h = keeps_gather held (s 0) v h
sequences_keep f.Permute held s m v h = keeps_permute held (s 0) v h
sequences_keep f.Split held s m v h = keeps_split held (s 0) v h
sequences_keep f.Partition held s m v h = keeps_partition held (s 0) v h
sequences_keep f.Write held s m v h = keeps_write held (s 0) v h
